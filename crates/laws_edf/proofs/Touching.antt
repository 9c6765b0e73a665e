-- Where units are lost though no interval is overloaded, some sleeping slot next to an awake one helps; with all slots awake none is lost.
use Rattle.std.specs.Prelude.{ℕ, suc, ◌-◌, ◌≤◌, ◌<◌, ◌≡◌, refl, Bool, true, false, ◌⊎◌}
use Rattle.std.proofs.Math.Bool.{Bool-discrete}
use Rattle.std.proofs.Common.{inl, inr, arith}
use Rattle.std.proofs.Math.Decide.{dec_le, dec_lt}
use Rattle.sched.specs.Bounded.{sum_below}
use Rattle.sched.proofs.Bounded.Laws.{by_bool}
use Rattle.laws_edf.specs.Run.{Spans, State, left, all_units}
use Rattle.laws_edf.proofs.Find.{dec_both, find, change, sum_positive}
use Rattle.laws_edf.specs.Lacking.{Carry, Lossy}
use Rattle.laws_edf.proofs.Shortage.{Critical, critical, released_at, units_inside, overfull}

-- an awake slot next to x
abbrev pub NextToAwake : (ℕ → Bool) → ℕ → Type 0
NextToAwake S x = ((y : ℕ) × (suc y ≡ x) × (S y ≡ true)) ⊎ (S (suc x) ≡ true)

-- an awake slot among r - 1 to d
abbrev pub Window : Spans → (ℕ → Bool) → ℕ → Type 0
Window F S j = (w : ℕ) × (S w ≡ true) × (F.r j ≤ suc w) × (w ≤ F.d j)

pub record Wakeable (S : ℕ → Bool) (a e : ℕ) : Type 0 where
  pub slot : ℕ
  pub from : a ≤ slot
  pub below : slot < e
  pub sleeps : S slot ≡ false
  pub touches : NextToAwake S slot

-- between a sleeping slot of the interval and an awake one of it or next to it
between : (S : ℕ → Bool) (a e z w : ℕ) → a ≤ z → z < e → S z ≡ false → a ≤ suc w → w ≤ e → S w ≡ true → Wakeable S a e
between S a e z w l m q u v s = go (dec_lt w z)
  where
    go : Dec (w < z) → Wakeable S a e
    go (yes b) =
        let k = change S true (z - w) w z (omega arith) s q in
        record { slot = suc k.at; from = omega (arith, k.from); below = omega (arith, k.below); sleeps = k.there; touches = inl (k.at, refl, k.here) }
    go (no b) =
        let k = change S false (w - z) z w (omega arith) q s in
        record { slot = k.at; from = omega (arith, k.from); below = omega (arith, k.below); sleeps = k.here; touches = inr k.there }

-- a list that passes the checks and has no overloaded interval
pub record Fits (F : Spans) (p : State) (H : ℕ) : Type 0 where
  pub span : (j : ℕ) → j < F.n → F.r j < F.d j
  pub within : (j : ℕ) → j < F.n → F.d j ≤ H
  pub room : (a e : ℕ) → a < e → e ≤ H → sum_below F.n (units_inside F a e p) ≤ e - a

module _ (F : Spans) (S : ℕ → Bool) (p : State) (H : ℕ) (f : Fits F p H) where
  lost : 0 < all_units F (left F S p H) → (e : ℕ) × Lossy F e (left F S p H)
  lost l =
      let u = sum_positive F.n (left F S p H) l in
      (F.d u.0, record { job = u.0; below = u.1; at_end = refl; unit = u.2 })

  lossy_within : (e : ℕ) → Lossy F e (left F S p H) → e ≤ H
  lossy_within e u = omega (arith, f.within u.job u.below, u.at_end)

  -- the interval before a lossy deadline has a sleeping slot
  sleeping_in : (a e : ℕ) → e ≤ H → Critical F S p a e → (z : ℕ) × (z < e) × ((a ≤ z) × (S z ≡ false))
  sleeping_in a e l c = go (find (λ z. (a ≤ z) × (S z ≡ false)) (λ z. dec_both (dec_le a z) (Bool-discrete (S z) false)) e)
    where
      go : ((z : ℕ) × (z < e) × ((a ≤ z) × (S z ≡ false))) ⊎ ((z : ℕ) → z < e → ((a ≤ z) × (S z ≡ false)) → ⊥) → (z : ℕ) × (z < e) × ((a ≤ z) × (S z ≡ false))
      go (inl r) = r
      go (inr n) =
          absurd (omega (
            arith,
            f.room a e c.below l,
            overfull F S p a e c (λ t u v. by_bool (S t) (λ q. q) (λ q. absurd (n t v (u, q)))),
          ))

  pub touching_lacks : 0 < all_units F (left F S p H) → ((j : ℕ) → j < F.n → Window F S j) →
      (e : ℕ) × (e ≤ H) × (k : Wakeable S 0 e) × ((s : ℕ) → k.slot < s → s ≤ e → Carry F e s (left F S p s))
  touching_lacks l windows =
      let (e, u) = lost l in
      let m = lossy_within e u in
      let (a, c) = critical F S p e H m f.span u in
      let (z, b, zs) = sleeping_in a e m c in
      let (j, jb, r, d) = released_at F S p a e c in
      let (w, s, v, i) = windows j jb in
      let k = between S a e z w zs.0 b zs.1 (omega arith) (omega arith) s in (
        e,
        m,
        record { slot = k.slot; from = omega arith; below = k.below; sleeps = k.sleeps; touches = k.touches },
        (λ t q o. c.carried t (omega (arith, k.from)) o),
      )

  -- with every slot awake nothing is lost
  pub all_awake_serves : ((t : ℕ) → t < H → S t ≡ true) → all_units F (left F S p H) ≡ 0
  all_awake_serves all = go (dec_lt 0 (all_units F (left F S p H)))
    where
      go : Dec (0 < all_units F (left F S p H)) → all_units F (left F S p H) ≡ 0
      go (yes l) =
          let (e, u) = lost l in
          let m = lossy_within e u in
          let (a, c) = critical F S p e H m f.span u in
          absurd (omega (arith, f.room a e c.below m, overfull F S p a e c (λ t q b. all t (omega arith))))
      go (no l) = omega arith
