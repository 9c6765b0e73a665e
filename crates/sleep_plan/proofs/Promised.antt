-- From what the reader, the planner and the block's functions promise to what the entry promises, return by return.
use Rattle.std.specs.Prelude.{Err, Ok}
use Prim.Native.Nat.{ℕ, ◌≤◌, ◌<◌}
use mathlib.Core.Path.{◌≡◌, sym, ap, subst, ◌∙◌}
use mathlib.Core.Bool.{false}
use mathlib.Core.List.{List, [], ◌∷◌}
use native.Mathlib.Omega.{arith}
use lib.ListN.{length, get_or, take, drop}
use Rattle.sched.specs.Refusals.{number, place}
use Rattle.sched.proofs.Refusals.Laws.{refusal_number}
use Rattle.sched.specs.Jobs.{Jobs}
use Rattle.sched.specs.Checks.{Passes}
use Rattle.sched.specs.Answers.{outcome_values}
use Rattle.sched.specs.declared.Refusal.{Refusal}
use Rattle.sched.specs.declared.Outcome.{Outcome}
use Rattle.laws_rivals.specs.Rivals.{AgainstRivals, CheapestSleep, CountsWoken}
use Rattle.planner.specs.Promises.{PlanPromise}
use Rattle.joblist.specs.Reading.{list_of}
use Rattle.sched.proofs.Checks.Laws.{refused_not_passed}
use Rattle.sleep_plan.specs.Block.{block_length, answered, number_in}
use Rattle.sleep_plan.specs.Block.Laws.{one_number}
use Rattle.sleep_plan.specs.Puts.{Puts, PutsOutcome}
use Rattle.sleep_plan.specs.Entry.{Answer, bytes_check, Entry, in_block}
use Rattle.sched.specs.TwoBytes.{AreBytes}
use Rattle.joblist.specs.Bytes.{spelling}
use Rattle.joblist.proofs.Theorems.{spelling_read, spelling_list, read_list_passes, place_small}
use Rattle.sleep_plan.specs.Entry.Laws.{entry_short, entry_answers, answer_refused, answer_planned}
use Rattle.sleep_plan.specs.Promises.{as_call, CallPromise}
use Rattle.sleep_plan.proofs.Answers.{plan_fits, outcome_numbers, against, counts, reports_back}

-- the bytes of a list that passes the list checks are read, to that list
spelled_reads : (J : Jobs) (list : List ℕ) → Passes J → list ≡ spelling J → bytes_check list ≡ Ok tt
spelled_reads J list p e = rw e (spelling_read J 64 64 64 p (record { releases = p.few; deadlines = p.few; volumes = p.few }))

spelled_is : (J : Jobs) (list : List ℕ) → J.start ≡ false → Passes J → list ≡ spelling J → list_of list ≡ J
spelled_is J list asleep p e = ap list_of e ∙ spelling_list J asleep p

-- a short block
pub promise_short : (list table block : List ℕ) → length block < block_length → CallPromise list table block 17 table block
promise_short list table block l =
    let e = sym (entry_short list table block l) in
    record {
      returned = ap (λ (x : Entry). x.number) e;
      table = ap (λ (x : Entry). x.table) e;
      block = ap (λ (x : Entry). x.block) e;
      numbers = λ m i k. absurd (omega arith);
      rivals = λ J z p e h m. absurd (omega arith);
      rivals_of_bytes = λ p h m. absurd (omega arith);
      cheapest = λ J z p e reported y. absurd (omega (arith, y.0));
      cheapest_of_bytes = λ reported y. absurd (omega (arith, y.0));
      added = λ J z p e y. absurd (omega arith);
      added_of_bytes = λ y. absurd (omega arith);
    }

-- a list that the reader refuses
pub promise_refused : (list table block block' : List ℕ) (n : ℕ) (r : Refusal) → block_length ≤ length block → bytes_check list ≡ Err r → Puts (number r) (place r ∷ []) block n block' → CallPromise list table block n table block'
promise_refused list table block block' n r l f puts =
    let a = answer_refused list table r f in
    let e = sym (entry_answers list table block l ∙ ap (λ (x : Answer). in_block x block) a) in
    let within : place r ≤ 453 = place_small list 64 64 64 r f in
    record {
      returned = puts.returned ∙ ap (λ (x : Entry). x.number) e;
      table = ap (λ (x : Entry). x.table) e;
      block = puts.block ∙ ap (λ (x : Entry). x.block) e;
      numbers = λ m i k.
          ap (λ (b : List ℕ). number_in b i) puts.block
          ∙ one_number (place r) (drop block_length block) (omega arith) i k
          ∙ ap (λ (x : Answer). get_or x.values i 0) (sym a);
      rivals = λ J z p e h m. refused_not_passed r (sym f ∙ spelled_reads J list p e);
      rivals_of_bytes = λ p h m. refused_not_passed r (sym f ∙ p);
      cheapest = λ J z p e reported y. absurd (refusal_number r (sym puts.returned ∙ y.0));
      cheapest_of_bytes = λ reported y. absurd (refusal_number r (sym puts.returned ∙ y.0));
      added = λ J z p e y. absurd (refusal_number r (sym puts.returned ∙ y));
      added_of_bytes = λ y. absurd (refusal_number r (sym puts.returned ∙ y));
    }

-- a list that was read; J is what the planner was handed
pub promise_planned : (list table block table' block' : List ℕ) (n : ℕ) (o : Outcome) (J : Jobs) → AreBytes list → block_length ≤ length block → bytes_check list ≡ Ok tt → J ≡ list_of list → PlanPromise J table o table' → PutsOutcome o block n block' → CallPromise list table block n table' block'
promise_planned list table block table' block' n o J small l p same promise puts =
    let K = list_of list in
    let passes = read_list_passes list 64 64 64 small p in
    let ours : PlanPromise K table o table' = subst (λ (x : Jobs). PlanPromise x table o table') same promise in
    let a = answer_planned list table p in
    let e = sym (entry_answers list table block l ∙ ap (λ (x : Answer). in_block x block) a) in
    let fits = plan_fits K passes table table' o ours.same (ours.rivals passes) puts.fits in
    let back : (i : ℕ) → i < 4 → number_in block' i ≡ get_or (outcome_values o) i 0 =
    (λ i b. ap (λ (x : List ℕ). number_in x i) puts.puts.block ∙ outcome_numbers o (drop block_length block) fits i b) in
    let held : K.horizon ≤ length table → AgainstRivals K (as_call n block') (take K.horizon table') =
    (λ h. against K o (take K.horizon table') block block' n (ours.rivals passes h) puts.puts back) in
    let least : CheapestSleep K (as_call n block') (take K.horizon table') =
    (λ reported y. ours.cheapest reported (reports_back o block' reported (back 0 (omega arith)) (sym puts.puts.returned ∙ y.0) y.1)) in
    let counted : n ≡ 0 → CountsWoken K (number_in block' 3) =
    (λ z. counts K o block' ours.added (back 3 (omega arith)) (sym puts.puts.returned ∙ z)) in
    record {
      returned = puts.puts.returned ∙ ours.number ∙ ap (λ (x : Entry). x.number) e;
      table = ours.bytes ∙ ap (λ (x : Entry). x.table) e;
      block = puts.puts.block ∙ ap (λ (x : List ℕ). answered x block) ours.values ∙ ap (λ (x : Entry). x.block) e;
      numbers = λ m i b. back i b ∙ ap (λ (x : List ℕ). get_or x i 0) ours.values ∙ ap (λ (x : Answer). get_or x.values i 0) (sym a);
      rivals = λ L z q s h m.
          let is : K ≡ L = spelled_is L list z q s in
          subst (λ (x : Jobs). x.horizon ≤ length table → AgainstRivals x (as_call n block') (take x.horizon table')) is held h;
      rivals_of_bytes = λ _ h m. held h;
      cheapest = λ L z q s. subst (λ (x : Jobs). CheapestSleep x (as_call n block') (take x.horizon table')) (spelled_is L list z q s) least;
      cheapest_of_bytes = least;
      added = λ L z q s y. subst (λ (x : Jobs). CountsWoken x (number_in block' 3)) (spelled_is L list z q s) (counted y);
      added_of_bytes = counted;
    }
