-- 02, card 5: "no table with the same working slots costs less".
use Rattle.std.specs.Prelude.{ℕ, suc, ◌+◌, ◌-◌, ◌*◌, ◌≤◌, min, ◌≡◌, Bool, not, ◌&&◌, eqb, ltb}
use Rattle.std.proofs.Math.Path.{refl, ap}
use Rattle.std.proofs.Common.{◌∙◌, ltb-true, ltb-false}
use Rattle.std.proofs.Math.Bool.{true, false}
use mathlib.Core.List.{List, [], ◌∷◌}
use Rattle.std.proofs.Math.Option.{Option, none, some}
use Rattle.std.proofs.Math.Nat.{mul-suc}
use native.Mathlib.Omega.{arith}
use Rattle.sched.proofs.Bounded.Laws.{by_bool, true_not_false}
use Rattle.sched.specs.Jobs.{Jobs}
use Rattle.sched.specs.Slots.{mark_byte, asleep, awake_of, works, working_of}
use Rattle.sched.specs.Energy.{awake_slots, runs_from, energy}
use Rattle.steps.specs.Sleep.{stays_awake, sleep_rule}
use Rattle.steps.proofs.Sleep.Laws.{works_awake}
use Rattle.steps.proofs.Sleep.FromFront.{next_work, slept_from, next_here, next_later, slept_none, slept_work, slept_rest, rule_from_front}

-- what a set costs from a state on
abbrev cost : ℕ → Bool → List Bool → ℕ
cost q b S = awake_slots S + q * runs_from b S

module _ (q : ℕ) where
  cost_sleeps : (b : Bool) (S : List Bool) → cost q b (false ∷ S) ≡ cost q false S
  unfolding awake_slots runs_from
  cost_sleeps true S = refl
  cost_sleeps false S = refl

  cost_stays : (S : List Bool) → cost q true (true ∷ S) ≡ suc (cost q true S)
  unfolding awake_slots runs_from
  cost_stays S = omega arith

  cost_wakes : (S : List Bool) → cost q false (true ∷ S) ≡ suc (q + cost q true S)
  unfolding awake_slots runs_from
  cost_wakes S = omega (arith, mul-suc q (runs_from true S))

  -- from an awake state a set costs no more than from a sleeping one
  cost_awake : (S : List Bool) → cost q true S ≤ cost q false S
  unfolding awake_slots runs_from
  cost_awake [] = omega arith
  cost_awake (true ∷ S) = omega (arith, cost_stays S, cost_wakes S)
  cost_awake (false ∷ S) = omega arith

-- where the stretch begins that is open behind a working slot, or behind none
abbrev since : Option ℕ → ℕ
since none = 0
since (some a) = suc a

module _ (q : ℕ) (start : Bool) where
  -- What must be paid to be awake in a working slot t: the wake cost, or the whole stretch since the working slot before; from a start awake the
  -- stretch before the first working slot is such a stretch, too.
  abbrev front_toll : Bool → ℕ → ℕ
  front_toll true t = min t q
  front_toll false t = q

  abbrev toll : Option ℕ → ℕ → ℕ
  toll none t = front_toll start t
  toll (some a) t = min (t - suc a) q

  toll_most : (before : Option ℕ) (t : ℕ) → toll before t ≤ q
  toll_most none t = go start
    where
      go : (b : Bool) → front_toll b t ≤ q
      go true = omega arith
      go false = omega arith
  toll_most (some a) t = omega arith

  toll_next : (before : Option ℕ) (t : ℕ) → toll before (suc t) ≤ suc (toll before t)
  toll_next none t = go start
    where
      go : (b : Bool) → front_toll b (suc t) ≤ suc (front_toll b t)
      go true = omega arith
      go false = omega arith
  toll_next (some a) t = omega arith

  -- What the slots from t on must cost at least, where W says which of them work.
  owed : Option ℕ → ℕ → List Bool → ℕ
  owed before t [] = 0
  owed before t (true ∷ W) = suc (toll before t + owed (some t) (suc t) W)
  owed before t (false ∷ W) = owed before (suc t) W

  -- Any table pays it: from a sleeping state by itself, from an awake one with what it has paid for the stretch so far.
  record Pays (before : Option ℕ) (t : ℕ) (W S : List Bool) : Type 0 where
    sleeping : owed before t W ≤ cost q false S
    waking : owed before t W ≤ cost q true S + toll before t

  pays : (before : Option ℕ) (t : ℕ) (l : List ℕ) → Pays before t (working_of l) (awake_of l)
  unfolding owed awake_slots runs_from
  pays before t [] = record { sleeping = omega arith; waking = omega arith }
  pays before t (byte ∷ rest) = by_bool (works byte) (λ w. work w (pays (some t) (suc t) rest)) (λ w. by_bool (not (eqb byte asleep)) (λ a. wait w a (pays before (suc t) rest)) (λ a. sleep w a (pays before (suc t) rest)))
    where
      work : works byte ≡ true → Pays (some t) (suc t) (working_of rest) (awake_of rest) → Pays before t (working_of (byte ∷ rest)) (awake_of (byte ∷ rest))
      work w p =
          rw (w, works_awake byte w) (record {
            sleeping = omega (arith, cost_wakes q (awake_of rest), p.waking, toll_most before t);
            waking = omega (arith, cost_stays q (awake_of rest), p.waking);
          })

      wait : works byte ≡ false → not (eqb byte asleep) ≡ true → Pays before (suc t) (working_of rest) (awake_of rest) → Pays before t (working_of (byte ∷ rest)) (awake_of (byte ∷ rest))
      wait w a p =
          rw (w, a) (record {
            sleeping = omega (arith, cost_wakes q (awake_of rest), p.waking, toll_most before (suc t));
            waking = omega (arith, cost_stays q (awake_of rest), p.waking, toll_next before t);
          })

      sleep : works byte ≡ false → not (eqb byte asleep) ≡ false → Pays before (suc t) (working_of rest) (awake_of rest) → Pays before t (working_of (byte ∷ rest)) (awake_of (byte ∷ rest))
      sleep w a p =
          rw (w, a) (record {
            sleeping = omega (arith, cost_sleeps q false (awake_of rest), p.sleeping);
            waking = omega (arith, cost_sleeps q true (awake_of rest), p.sleeping);
          })

  -- The rule pays no more. Where the stretch before the next working slot sleeps, the slots from t on cost no more by themselves; where it stays
  -- awake, together with the slots of the stretch before t.
  record Settles (before : Option ℕ) (t : ℕ) (l : List ℕ) : Type 0 where
    asleep : stays_awake q start before (next_work t l) ≡ false → cost q false (awake_of (slept_from q start before t l)) ≤ owed before t (working_of l)
    awake : since before ≤ t → stays_awake q start before (next_work t l) ≡ true →
        cost q true (awake_of (slept_from q start before t l)) + (t - since before) ≤ owed before t (working_of l)

  -- behind a working slot the next stretch begins, and the state is awake
  behind_work : (t : ℕ) (l : List ℕ) → Settles (some t) (suc t) l → cost q true (awake_of (slept_from q start (some t) (suc t) l)) ≤ owed (some t) (suc t) (working_of l)
  behind_work t l s =
      by_bool (stays_awake q start (some t) (next_work (suc t) l)) (λ e. omega (arith, s.awake (omega arith) e))
      (λ e. omega (arith, s.asleep e, cost_awake q (awake_of (slept_from q start (some t) (suc t) l))))

  toll_sleeps : (before : Option ℕ) (t : ℕ) → stays_awake q start before (some t) ≡ false → toll before t ≡ q
  toll_sleeps none t e = go start e
    where
      go : (b : Bool) → b && ltb t q ≡ false → front_toll b t ≡ q
      go true f = omega (arith, ltb-false t q f)
      go false f = refl
  toll_sleeps (some a) t e = omega (arith, ltb-false (t - suc a) q e)

  toll_awake : (before : Option ℕ) (t : ℕ) → stays_awake q start before (some t) ≡ true → toll before t ≡ t - since before
  toll_awake none t e = go start e
    where
      go : (b : Bool) → b && ltb t q ≡ true → front_toll b t ≡ t - 0
      go true f = omega (arith, ltb-true t q f)
      go false f = absurd (true_not_false false f refl)
  toll_awake (some a) t e = omega (arith, ltb-true (t - suc a) q e)

  settles : (before : Option ℕ) (t : ℕ) (l : List ℕ) → Settles before t l
  unfolding owed awake_slots runs_from next_work
  settles before t [] = record { asleep = λ e. rw (slept_none q start before t) (omega arith); awake = λ l s. absurd (none_ahead before s) }
    where
      none_ahead : (o : Option ℕ) → stays_awake q start o none ≡ true → ⊥
      none_ahead none e = true_not_false false e refl
      none_ahead (some a) e = true_not_false false e refl
  settles before t (byte ∷ rest) = by_bool (works byte) (λ w. work w (settles (some t) (suc t) rest)) (λ w. rests w (settles before (suc t) rest))
    where
      work : works byte ≡ true → Settles (some t) (suc t) rest → Settles before t (byte ∷ rest)
      work w s =
          let behind = awake_of (slept_from q start (some t) (suc t) rest) in
          let set : awake_of (slept_from q start before t (byte ∷ rest)) ≡ true ∷ behind =
          ap awake_of (slept_work t byte rest q start before w) ∙ ap (λ (b : Bool). b ∷ behind) (works_awake byte w) in
          record {
            asleep = λ e. rw (set, w) (omega (arith, cost_wakes q behind, behind_work t rest s, toll_sleeps before t (rw (next_here t byte rest w) at e)));
            awake = λ l e. rw (set, w) (omega (arith, cost_stays q behind, behind_work t rest s, toll_awake before t (rw (next_here t byte rest w) at e)));
          }

      rests : works byte ≡ false → Settles before (suc t) rest → Settles before t (byte ∷ rest)
      rests w s =
          let behind = awake_of (slept_from q start before (suc t) rest) in
          let next = next_later t byte rest w in
          let set : awake_of (slept_from q start before t (byte ∷ rest)) ≡ not (eqb (mark_byte (stays_awake q start before (next_work (suc t) rest))) 255) ∷ behind =
          ap awake_of (slept_rest t byte rest q start before w) in
          record {
            asleep = λ e. let sleeps : stays_awake q start before (next_work (suc t) rest) ≡ false = rw next at e in rw (set, w, sleeps) (omega (arith, cost_sleeps q false behind, s.asleep sleeps));
            awake = λ l e. let stays : stays_awake q start before (next_work (suc t) rest) ≡ true = rw next at e in rw (set, w, stays) (omega (arith, cost_stays q behind, s.awake (omega arith) stays));
          }

-- the rule from either state before slot 0: a start awake has paid for the stretch so far, which has no slots yet
least_paid : (q : ℕ) (start : Bool) (table other : List ℕ) → working_of other ≡ working_of table →
    cost q start (awake_of (slept_from q start none 0 table)) ≤ cost q start (awake_of other)
least_paid q false table other same = omega (arith, (settles q false none 0 table).asleep (first_sleeps (next_work 0 table)), (pays q false none 0 other).sleeping, ap (owed q false none 0) same)
  where
    first_sleeps : (after : Option ℕ) → stays_awake q false none after ≡ false
    first_sleeps none = refl
    first_sleeps (some b) = refl
least_paid q true table other same =
    let rule = awake_of (slept_from q true none 0 table) in
    let paid : cost q true rule ≤ owed q true none 0 (working_of table) =
    by_bool (stays_awake q true none (next_work 0 table)) (λ e. omega (arith, (settles q true none 0 table).awake (omega arith) e))
    (λ e. omega (arith, (settles q true none 0 table).asleep e, cost_awake q rule)) in
    omega (arith, paid, (pays q true none 0 other).waking, ap (owed q true none 0) same)

-- For every table, wake cost and start: a table in which the same slots work costs at least as much, whatever its other slots hold.
pub none_cheaper : (J : Jobs) (table other : List ℕ) → working_of other ≡ working_of table →
    energy J (awake_of (sleep_rule J.wake J.start table)) ≤ energy J (awake_of other)
none_cheaper J table other same = rw (rule_from_front J.wake J.start table) (least_paid J.wake J.start table other same)
