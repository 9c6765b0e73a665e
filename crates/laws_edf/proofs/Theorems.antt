-- What earliest deadline first says about the words of 01: the workable volume of a set of slots, which slots help it, and when a list
-- has a feasible table. `FromState` has the law for the rest of a run, from any slot and any units left; `AnyTie` that the rule on equal
-- deadlines does not matter to what is served.
use Rattle.std.specs.Prelude.{ℕ, suc, ◌-◌, ◌≤◌, ◌<◌, ◌≡◌, Bool, true, false, List, ◌⊎◌, ◌↔◌, length, get_or, replicate}
use Rattle.std.proofs.Common.{sym, ap, ◌∙◌, arith}
use Rattle.std.proofs.Math.Option.{Option, none, some}
use Rattle.std.proofs.lemmas.List.{length-replicate, get_or-replicate}
use Rattle.sched.proofs.Bounded.Laws.{by_bool, true_not_false, sum_term}
use Rattle.sched.specs.Jobs.{Jobs, count, release, deadline, volume, total_volume}
use Rattle.sched.specs.Checks.{Passes}
use Rattle.sched.specs.Slots.{awake, awake_of, wake_slot, working_of}
use Rattle.sched.specs.Feasible.{Feasible}
use Rattle.steps.specs.Overload.{volume_if, volume_inside, overloaded, shown_overload, Overfull}
use Rattle.sched.specs.declared.Interval.{Interval}
use Rattle.steps.specs.Skeleton.{is_skeleton}
use Rattle.steps.specs.Workable.{Placement, Greatest, units, workable}
use Rattle.steps.specs.Extension.{helps, wakeable}
use Rattle.steps.specs.Table.{Rule, choice, fill_by, table_of}
use Rattle.laws_edf.specs.Run.{spans, vol, left, all_units, edf_volume}
use Rattle.laws_edf.specs.Search.{reads_whole}
use Rattle.laws_edf.specs.Lacking.{Lacking}
use Rattle.laws_edf.proofs.Touching.{touching_lacks, all_awake_serves}
use Rattle.laws_edf.specs.Rules.{EarliestRule}
use Rattle.laws_edf.proofs.Table.{choice_earliest, fill_awake, fill_feasible, fill_same}
use Rattle.laws_edf.proofs.WorkAlike.{work_alike}
use Rattle.laws_edf.proofs.Whole.{run_greatest, search_finds_run, served_and_lost, all_served}
use Rattle.laws_edf.proofs.Sets.{touching, skeleton_windows}
use Rattle.laws_edf.proofs.Woken.{woken_worth, lacks_if_helps, helps_if_carried, helped_before}
use Rattle.laws_edf.proofs.Room.{no_overload_fits}
use Rattle.laws_edf.proofs.Overload.Counting.{feasible_no_overload}
use Rattle.laws_edf.proofs.Overload.Shown.{shown_some}
use Rattle.laws_edf.proofs.Overload.Ends.{volume_if_inside, to_deadline, shown_release}

-- The workable volume

-- The run of earliest deadline first is a placement, and none has more units.
pub edf_greatest : (J : Jobs) (S : List Bool) → Passes J → Greatest J S (edf_volume J S)
edf_greatest J S p = run_greatest J S (omega (arith, p.few))

pub workable_is_edf : (J : Jobs) (S : List Bool) → length S ≡ J.horizon → workable J S ≡ edf_volume J S
workable_is_edf J S long = search_finds_run J S long

-- The search for the workable volume finds "the greatest number of job units that can be placed".
pub workable_greatest : (J : Jobs) (S : List Bool) → Passes J → length S ≡ J.horizon → Greatest J S (workable J S)
workable_greatest J S p long = rw (workable_is_edf J S long) (edf_greatest J S p)

pub workable_at_most_total : (J : Jobs) (S : List Bool) → Passes J → length S ≡ J.horizon → workable J S ≤ total_volume J
workable_at_most_total J S p long = omega (arith, workable_is_edf J S long, served_and_lost J p.same_volumes S)

pub placement_at_most_total : (J : Jobs) (S : List Bool) (placed : List ℕ) → Passes J → Placement J S placed → units J placed ≤ total_volume J
placement_at_most_total J S placed p c =
    omega (arith, (edf_greatest J S p).bound placed c, served_and_lost J p.same_volumes S)

-- One slot more

-- A slot more is worth one unit or none.
pub one_slot_more : (J : Jobs) (S : List Bool) (x : ℕ) → length S ≡ J.horizon → x < J.horizon → awake S x ≡ false →
    (workable J (wake_slot S x) ≡ workable J S) ⊎ (workable J (wake_slot S x) ≡ suc (workable J S))
one_slot_more J S x long l sleeps = woken_worth J S long x l sleeps

-- A sleeping slot helps exactly where up to some deadline, of which a unit is lost, a unit due by then is carried over every slot.
pub helps_iff_lacking : (J : Jobs) (S : List Bool) (x : ℕ) → Passes J → length S ≡ J.horizon → x < J.horizon → awake S x ≡ false →
    (helps J S x ≡ true) ↔ Lacking (spans J) (awake S) (volume J) J.horizon x
helps_iff_lacking J S x p long l sleeps = (lacks_if_helps J S long x l sleeps (λ j b. (p.good j b).within), helps_if_lacks)
  where
    helps_if_lacks : Lacking (spans J) (awake S) (volume J) J.horizon x → helps J S x ≡ true
    helps_if_lacks k =
        helps_if_carried J S long x l sleeps k.deadline k.ahead
        (omega (arith, (p.good k.lossy.job k.lossy.below).within, k.lossy.at_end)) k.carried

-- A slot that was tried in vain never has to be tried again.
pub unhelpful_stays : (J : Jobs) (S : List Bool) (x y : ℕ) → Passes J → length S ≡ J.horizon → x < J.horizon → awake S x ≡ false →
    helps J S x ≡ false → y < J.horizon → helps J (wake_slot S y) x ≡ false
unhelpful_stays J S x y p long l sleeps vain m =
    by_bool (helps J (wake_slot S y) x)
    (λ q. true_not_false (helps J S x) (helped_before J (λ j b. (p.good j b).within) S long x y l m sleeps q) vain) (λ q. q)

-- Step 3 finds its slot: "Where step 1 found no overload such a slot always exists".
pub some_slot_wakes : (J : Jobs) (S : List Bool) → Passes J → ((a b : ℕ) → overloaded J a b ≡ false) →
    is_skeleton J S ≡ true → length S ≡ J.horizon → workable J S < total_volume J → (x : ℕ) × (x < J.horizon) × (wakeable J S x ≡ true)
unfolding wakeable
some_slot_wakes J S p free skeleton long short =
    let lost : 0 < all_units (spans J) (left (spans J) (awake S) (volume J) J.horizon) = omega (arith, workable_is_edf J S long, served_and_lost J p.same_volumes S) in
    let fits = no_overload_fits J p free in
    let (e, m, k, carried) = touching_lacks (spans J) (awake S) (volume J) J.horizon fits lost (skeleton_windows J S skeleton) in
    let l : k.slot < J.horizon = omega (arith, k.below) in
    let h = helps_if_carried J S long k.slot l k.sleeps e k.below m carried in
    (k.slot, l, rw (k.sleeps, touching S k.slot k.touches, h))

-- Step 4, under any rule that takes a job of earliest deadline

-- It keeps the set: what is awake stays awake, and nothing else.
pub any_rule_keeps_set : (J : Jobs) (rule : Rule) (S : List Bool) → Passes J → EarliestRule J rule → awake_of (fill_by rule 0 J.volumes none S) ≡ S
any_rule_keeps_set J rule S p ok = fill_awake J (omega (arith, p.few)) rule ok 0 J.volumes none S

set_serves : (J : Jobs) (S : List Bool) → Passes J → length S ≡ J.horizon → workable J S ≡ total_volume J →
    vol (spans J) (awake S) (length S) 0 (volume J) ≡ all_units (spans J) (volume J)
set_serves J S p long all =
    ap (λ (h : ℕ). vol (spans J) (awake S) h 0 (volume J)) long ∙ all_served J p.same_volumes S (sym (workable_is_edf J S long) ∙ all)

-- Where the workable volume is the sum of volumes, its table is feasible.
pub any_rule_feasible : (J : Jobs) (rule : Rule) (S : List Bool) → Passes J → EarliestRule J rule → length S ≡ J.horizon →
    workable J S ≡ total_volume J → Feasible J (fill_by rule 0 J.volumes none S)
any_rule_feasible J rule S p ok long all =
    fill_feasible J (omega (arith, p.few)) rule ok S (awake S) long (reads_whole S) (set_serves J S p long all)

-- Whatever they do on equal deadlines, two such rules work in the same slots, in every set.
pub any_rules_work_alike : (J : Jobs) (rule other : Rule) (S : List Bool) → Passes J → EarliestRule J rule → EarliestRule J other →
    working_of (fill_by rule 0 J.volumes none S) ≡ working_of (fill_by other 0 J.volumes none S)
any_rules_work_alike J rule other S p ok ok' = work_alike J p.few rule other ok ok' S J.volumes

-- Any rule that agrees with one of these while no unfinished job is past its deadline gives the same table, where all volume can be worked.
pub any_rule_same : (J : Jobs) (rule other : Rule) (S : List Bool) → Passes J → EarliestRule J rule →
    ((t : ℕ) (left : List ℕ) (latest : Option ℕ) → ((j : ℕ) → j < count J → 0 < get_or left j 0 → t < deadline J j) → rule t left latest ≡ other t left latest) →
    length S ≡ J.horizon → workable J S ≡ total_volume J → fill_by rule 0 J.volumes none S ≡ fill_by other 0 J.volumes none S
any_rule_same J rule other S p ok agree long all =
    fill_same J (omega (arith, p.few)) rule ok other agree S (awake S) (reads_whole S) (set_serves J S p long all)

pub table_keeps_set : (J : Jobs) (S : List Bool) → Passes J → awake_of (table_of J S) ≡ S
unfolding table_of
table_keeps_set J S p = any_rule_keeps_set J (choice J) S p (choice_earliest J)

pub table_feasible : (J : Jobs) (S : List Bool) → Passes J → length S ≡ J.horizon → workable J S ≡ total_volume J → Feasible J (table_of J S)
unfolding table_of
table_feasible J S p long all = any_rule_feasible J (choice J) S p (choice_earliest J) long all

-- No overload

-- Where no interval is overloaded, all volume fits into all slots.
no_overload_workable : (J : Jobs) → Passes J → ((a b : ℕ) → overloaded J a b ≡ false) → workable J (replicate J.horizon true) ≡ total_volume J
no_overload_workable J p free =
    let all = replicate J.horizon true in
    omega (
      arith,
      workable_is_edf J all (length-replicate J.horizon true),
      served_and_lost J p.same_volumes all,
      all_awake_serves (spans J) (awake all) (volume J) J.horizon (no_overload_fits J p free) (λ t l. get_or-replicate J.horizon t true false l),
    )

no_overload_feasible : (J : Jobs) → Passes J → ((a b : ℕ) → overloaded J a b ≡ false) → (table : List ℕ) × Feasible J table
unfolding table_of
no_overload_feasible J p free =
    let all = replicate J.horizon true in
    (table_of J all, any_rule_feasible J (choice J) all p (choice_earliest J) (length-replicate J.horizon true) (no_overload_workable J p free))

-- There is a feasible table exactly where no interval is overloaded.
pub feasible_iff_no_overload : (J : Jobs) → Passes J → ((table : List ℕ) × Feasible J table) ↔ ((a b : ℕ) → overloaded J a b ≡ false)
feasible_iff_no_overload J p = ((λ f a b. feasible_no_overload J f.0 f.1 _ _), no_overload_feasible J p)

-- A volume larger than d−r overloads the job's own interval.
pub large_volume_overfull : (J : Jobs) (j : ℕ) → Passes J → j < count J → deadline J j - release J j < volume J j → Overfull J (release J j) (deadline J j)
unfolding volume_inside
large_volume_overfull J j p l large =
    let r = release J j in
    let d = deadline J j in
    let good = p.good j l in
    let own = volume_if_inside J r d j (omega arith) (omega arith) in
    record { span = good.span; within = good.within; more = omega (arith, good, own, sum_term (count J) (volume_if J r d) j l) }

-- The interval that is shown begins with a job's release and ends with a job's deadline.
pub shown_ends : (J : Jobs) (i : Interval) → Passes J → shown_overload J ≡ some i →
    ((k : ℕ) × (k < count J) × (release J k ≡ i.a)) × ((k : ℕ) × (k < count J) × (deadline J k ≡ i.b))
shown_ends J i p e =
    let s = shown_some J i e in
    let r = to_deadline J p i.a i.b s.over in
    (shown_release J p i s, (r.0, r.1, omega (arith, r.2, s.least i.a (deadline J r.0) r.3)))
