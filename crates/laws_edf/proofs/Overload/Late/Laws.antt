-- The pass keeps what `Ran` says of it, and so finds the least end of an overloaded interval.
use Rattle.std.specs.Prelude.{ℕ, ◌+◌, ◌-◌, ◌≤◌, ◌<◌, ◌≡◌, refl, Bool, ◌&&◌, ◌⊎◌, ◌≢◌}
use Rattle.std.proofs.Math.Path.{sym, ap}
use Rattle.std.proofs.Common.{◌∙◌, inl, inr}
use Rattle.std.proofs.Math.Bool.{true, false, and-false}
use native.Mathlib.Omega.{arith}
use Rattle.std.proofs.Math.Decide.{ℕ_discrete, dec_le}
use borrow.Author.Tests.{le-leb, lt-leb}
use Rattle.std.proofs.Math.Dec.{leb}
use Rattle.sched.specs.Bounded.{sum_below}
use Rattle.sched.proofs.Bounded.Laws.{sum_ext, sum_mono, sum_zero}
use Rattle.sched.specs.Jobs.{Jobs, count, release, deadline, volume}
use Rattle.sched.specs.Checks.{Passes}
use Rattle.steps.specs.Overload.{volume_if, volume_inside}
use Rattle.laws_edf.specs.Units.{sum_more}
use Rattle.steps.specs.Overload.{Overfull}
use Rattle.laws_edf.proofs.Overload.Ends.{counts, counts_not}
use Rattle.laws_edf.specs.Overload.Late.{served_if, served_inside, Busy, Ran, Stint}

module _ (J : Jobs) (L : ℕ → ℕ) (a b j : ℕ) where
  served_if_inside : a ≤ release J j → deadline J j ≤ b → served_if J L a b j ≡ volume J j - L j
  unfolding served_if
  served_if_inside l m =
      counts (leb a (release J j) && leb (deadline J j) b) (volume J j - L j)
      (rw (le-leb a (release J j) l, le-leb (deadline J j) b m))

  served_early : release J j < a → served_if J L a b j ≡ 0
  unfolding served_if
  served_early l = counts_not (leb a (release J j) && leb (deadline J j) b) (volume J j - L j) (rw (lt-leb a (release J j) l))

  served_late : b < deadline J j → served_if J L a b j ≡ 0
  unfolding served_if
  served_late l =
      counts_not (leb a (release J j) && leb (deadline J j) b) (volume J j - L j)
      (rw (lt-leb (deadline J j) b l, and-false (leb a (release J j))))

  served_some : (v : ℕ) → volume J j - L j ≡ v → served_if J L a b j ≡ elim (leb a (release J j) && leb (deadline J j) b) [ true ↦ v | false ↦ 0 ]
  unfolding served_if
  served_some v e = ap (λ (x : ℕ). elim (leb a (release J j) && leb (deadline J j) b) [ true ↦ x | false ↦ 0 ]) e

-- before slot 0 nothing is served
pub ran_start : (J : Jobs) (end : ℕ) → J.horizon < end → Ran J (volume J) 0 end
unfolding served_inside
ran_start J end behind =
    record {
      kept = λ j l. omega arith;
      most = λ a b. omega (arith, nothing a b);
      busy = λ b. record { from = 0; past = omega arith; full = omega arith; others = λ j l u d. omega arith };
      in_time = λ a b l h. omega (arith, nothing a b);
      late = λ l. absurd (omega arith);
    }
  where
    either : (c : Bool) → ◌≡◌ {A = ℕ} (elim c [ true ↦ 0 | false ↦ 0 ]) 0
    either true = refl
    either false = refl

    nothing : (a b : ℕ) → sum_below (count J) (served_if J (volume J) a b) ≡ 0
    nothing a b = sum_zero (count J) (served_if J (volume J) a b) (λ j l.
        served_some J (volume J) a b j 0 (omega arith) ∙ either (leb a (release J j) && leb (deadline J j) b))

-- no job waits, and so the slots up to t' stay idle
pub ran_idle :
    (J : Jobs) (L : ℕ → ℕ) (t t' end : ℕ) → t ≤ t' → ((j : ℕ) → j < count J → 0 < L j → t' ≤ release J j) → Ran J L t end → Ran J L t' end
ran_idle J L t t' end l h r =
    record {
      kept = r.kept;
      most = λ a b. omega (arith, r.most a b);
      busy = λ b. record { from = t'; past = omega arith; full = omega arith; others = λ j k u d. h j k u };
      in_time = λ a b m w. r.in_time a b m (λ j k u d. omega (arith, w j k u d));
      late = r.late;
    }

module _ (J : Jobs) (L L' : ℕ → ℕ) (t m x end end' : ℕ) (p : Passes J) (r : Ran J L t end) (s : Stint J L L' t m x) where
  other : (a b j : ℕ) → j ≢ m → served_if J L' a b j ≡ served_if J L a b j
  unfolding served_if
  other a b j n = ap (λ (u : ℕ). elim (leb a (release J j) && leb (deadline J j) b) [ true ↦ volume J j - u | false ↦ 0 ]) (s.same j n)

  -- the interval has job m inside, or not

  more : (a b : ℕ) → a ≤ release J m → deadline J m ≤ b → served_inside J L' a b ≡ served_inside J L a b + x
  unfolding served_inside
  more a b l d =
      sum_more (count J) (served_if J L a b) (served_if J L' a b) m x s.known
      (omega (arith, served_if_inside J L a b m l d, served_if_inside J L' a b m l d, s.units, r.kept m s.known)) (other a b)

  no_more : (a b : ℕ) → (release J m < a) ⊎ (b < deadline J m) → served_inside J L' a b ≡ served_inside J L a b
  unfolding served_inside
  no_more a b o = sum_ext (count J) _ _ (λ j l. go j o (ℕ_discrete j m))
    where
      go : (j : ℕ) → (release J m < a) ⊎ (b < deadline J m) → Dec (j ≡ m) → served_if J L' a b j ≡ served_if J L a b j
      go j (inl l) (yes q) = rw q (served_early J L' a b m l ∙ sym (served_early J L a b m l))
      go j (inr l) (yes q) = rw q (served_late J L' a b m l ∙ sym (served_late J L a b m l))
      go j o (no n) = other a b j n

  had : (j : ℕ) → 0 < L' j → 0 < L j
  had j u = go (ℕ_discrete j m)
    where
      go : Dec (j ≡ m) → 0 < L j
      go (yes q) = rw q (omega (arith, s.units, s.some))
      go (no n) = omega (arith, s.same j n)

  most : (a b : ℕ) → served_inside J L' a b ≤ t + x - a
  most a b = go (dec_le a (release J m)) (dec_le (deadline J m) b)
    where
      go : Dec (a ≤ release J m) → Dec (deadline J m ≤ b) → served_inside J L' a b ≤ t + x - a
      go (yes l) (yes d) = omega (arith, more a b l d, r.most a b, s.released)
      go (no l) _ = omega (arith, no_more a b (inl (omega arith)), r.most a b)
      go (yes l) (no d) = omega (arith, no_more a b (inr (omega arith)), r.most a b)

  -- job m is released in the busy slots of its deadline
  busy_from : (b : ℕ) → deadline J m ≤ b → (r.busy b).from ≤ release J m
  busy_from b d = (r.busy b).others m s.known (omega (arith, s.units, s.some)) d

  busy : (b : ℕ) → Busy J L' (t + x) b
  busy b = go (dec_le (deadline J m) b)
    where
      go : Dec (deadline J m ≤ b) → Busy J L' (t + x) b
      go (yes d) =
          let o = r.busy b in
          record {
            from = o.from;
            past = omega (arith, o.past);
            full = omega (arith, o.full, o.past, more o.from b (busy_from b d) d);
            others = λ j l u e. o.others j l (had j u) e;
          }
      go (no d) = record { from = t + x; past = omega arith; full = omega arith; others = λ j l u e. later j e (s.first j l (had j u)) }
        where
          later : (j : ℕ) → deadline J j ≤ b → (deadline J m ≤ deadline J j) ⊎ (t + x ≤ release J j) → t + x ≤ release J j
          later j e (inl f) = absurd (omega arith)
          later j e (inr f) = f

  -- behind its deadline it shows that there was too little room
  overfull : deadline J m < t + x → (a : ℕ) × Overfull J a (deadline J m)
  unfolding served_inside volume_inside served_if volume_if
  overfull l =
      let b = deadline J m in
      let o = r.busy b in
      let f = busy_from b (omega arith) in
      let good = p.good m s.known in
      let least : served_inside J L' o.from b ≤ volume_inside J o.from b = sum_mono (count J) _ _ (λ j k. volume_most o.from b j) in (
        o.from,
        record {
          span = omega (arith, f, good.span);
          within = good.within;
          more = omega (arith, o.full, o.past, more o.from b f (omega arith), least, f, good.span);
        },
      )
    where
      volume_most : (a b j : ℕ) → served_if J L' a b j ≤ volume_if J a b j
      volume_most a b j = go (leb a (release J j) && leb (deadline J j) b)
        where
          go : (c : Bool) → elim c [ true ↦ volume J j - L' j | false ↦ 0 ] ≤ elim c [ true ↦ volume J j | false ↦ 0 ]
          go true = omega arith
          go false = omega arith

  module _
      (fewer : end' ≤ end) (passed : L' m ≡ 0 → deadline J m < t + x → end' ≤ deadline J m)
      (either : (end' ≡ end) ⊎ ((end' ≡ deadline J m) × (deadline J m < t + x))) where
    in_time : (a b : ℕ) → b < end' → ((j : ℕ) → j < count J → 0 < L' j → deadline J j ≤ b → t + x ≤ release J j) → served_inside J L' a b ≤ b - a
    in_time a b l h = go (dec_le (deadline J m) b)
      where
        done : deadline J m ≤ b → Dec (L' m ≡ 0) → Dec (t + x ≤ deadline J m) → served_inside J L' a b ≤ b - a
        done d (no n) _ = absurd (omega (arith, h m s.known (omega arith) d, s.released, s.some))
        done d (yes z) (yes e) = omega (arith, most a b)
        done d (yes z) (no e) = absurd (omega (arith, passed z (omega arith)))

        go : Dec (deadline J m ≤ b) → served_inside J L' a b ≤ b - a
        go (yes d) = done d (ℕ_discrete (L' m) 0) (dec_le (t + x) (deadline J m))
        go (no d) =
            let before = r.in_time a b (omega arith) (λ j k u e.
            let n : j ≢ m = λ q. omega (arith, ap (deadline J) q) in
            omega (arith, h j k (omega (arith, s.same j n)) e)) in
            omega (arith, no_more a b (inr (omega arith)), before)

    late : (end' ≡ end) ⊎ ((end' ≡ deadline J m) × (deadline J m < t + x)) → end' ≤ J.horizon → (a : ℕ) × Overfull J a end'
    late (inl q) l = rw q (r.late (omega arith))
    late (inr (q, d)) l = rw q (overfull d)

    pub ran_stint : Ran J L' (t + x) end'
    ran_stint =
        record {
          kept = λ j l. go j l (ℕ_discrete j m);
          most = most;
          busy = busy;
          in_time = in_time;
          late = late either;
        }
      where
        go : (j : ℕ) → j < count J → Dec (j ≡ m) → L' j ≤ volume J j
        go j l (yes q) = omega (arith, ap L' q, ap (volume J) q, s.units, r.kept m s.known)
        go j l (no n) = omega (arith, s.same j n, r.kept j l)

-- when nothing is left, no overloaded interval ends before the end
pub ran_through : (J : Jobs) (L : ℕ → ℕ) (t end : ℕ) → Ran J L t end → ((j : ℕ) → j < count J → L j ≡ 0) → (a b : ℕ) → b < end → Overfull J a b → ⊥
unfolding served_inside volume_inside served_if volume_if
ran_through J L t end r z a b l o =
    let all : served_inside J L a b ≡ volume_inside J a b = sum_ext (count J) _ _ whole in
    let room = r.in_time a b l (λ j k u d. absurd (omega (arith, z j k))) in
    omega (arith, all, room, o.more)
  where
    whole : (j : ℕ) → j < count J → served_if J L a b j ≡ volume_if J a b j
    whole j k = served_some J L a b j (volume J j) (omega (arith, z j k))
