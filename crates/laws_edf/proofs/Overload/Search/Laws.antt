-- The least deadline with a start, and the start, are the interval that 01 shows.
use Rattle.std.specs.Prelude.{ℕ, suc, ◌+◌, ◌-◌, ◌≤◌, ◌<◌, ◌≡◌, Bool}
use Rattle.std.proofs.Math.Path.{refl}
use Rattle.std.proofs.Math.Bool.{true, false}
use mathlib.Core.List.{List, [], ◌∷◌, map}
use Rattle.std.proofs.Math.Option.{Option, none, some}
use Rattle.std.proofs.Common.{arith, ltb-true, ltb-false, leb-true, leb-false}
use Rattle.std.proofs.Math.Decide.{dec_le, dec_lt}
use Rattle.std.proofs.Math.Dec.{leb, ltb}
use Rattle.sched.specs.Bounded.{total}
use Rattle.sched.specs.Jobs.{Jobs, count, release, deadline, volume}
use Rattle.sched.specs.Checks.{Passes}
use Rattle.steps.specs.Overload.{volume_if, volume_inside, shown_overload}
use Rattle.steps.specs.Overload.{Overfull}
use Rattle.laws_edf.proofs.Overload.Shown.{shows, shows_one}
use Rattle.laws_edf.proofs.Overload.Ends.{volume_if_inside, volume_early, volume_late}
use Rattle.laws_edf.specs.Overload.Order.{AtMost, InOrder}
use Rattle.laws_edf.specs.Overload.Search.{start_for, start_or, Visited, Starts}

-- jobs released before a have no volume inside
all_early : (J : Jobs) (a b v : ℕ) (rest : List ℕ) → v < a → AtMost (release J) v rest → total (map (volume_if J a b) rest) ≡ 0
unfolding total
all_early J a b v [] l m = refl
all_early J a b v (j ∷ js) l (m, ms) = omega (arith, volume_early J a b j (omega arith), all_early J a b v js l ms)

module _ (J : Jobs) (p : Passes J) (b : ℕ) (within : b ≤ J.horizon) where
  -- a job that does not belong inside is passed over
  visit_late : (j : ℕ) (js : List ℕ) (sum top : ℕ) → b < deadline J j → Visited J b (j ∷ js) sum top → Visited J b js sum top
  unfolding total
  visit_late j js sum top l v =
      record {
        known = v.known.1;
        most = v.most.1;
        falling = v.falling.1;
        room = v.room;
        later = v.later;
        inside = λ a m. omega (arith, v.inside a m, volume_late J a b j l);
      }

  -- between the release of the job at hand and `top` no start was missed
  visit_between : (j : ℕ) (js : List ℕ) (sum top : ℕ) → Visited J b (j ∷ js) sum top → (a : ℕ) → release J j < a → Overfull J a b → ⊥
  unfolding total
  visit_between j js sum top v a l o = go (dec_le a top)
    where
      go : Dec (a ≤ top) → ⊥
      go (yes m) =
          omega (arith, v.inside a m, v.room, o.more, volume_early J a b j l, all_early J a b (release J j) js l v.falling.0)
      go (no m) = v.later a (omega arith) o

  visit_next : (j : ℕ) (js : List ℕ) (sum top : ℕ) → deadline J j ≤ b → sum + volume J j ≤ b - release J j → Visited J b (j ∷ js) sum top → Visited J b js (sum + volume J j) (release J j)
  unfolding total
  visit_next j js sum top l r v =
      record {
        known = v.known.1;
        most = v.falling.0;
        falling = v.falling.1;
        room = r;
        later = visit_between j js sum top v;
        inside = λ a m. omega (arith, v.inside a (omega (arith, v.most.0)), volume_if_inside J a b j m l);
      }

  visit_found : (j : ℕ) (js : List ℕ) (sum top : ℕ) → deadline J j ≤ b → b - release J j < sum + volume J j → Visited J b (j ∷ js) sum top → Starts J b (some (release J j))
  unfolding total
  visit_found j js sum top l r v = (over, λ x o. go x o (dec_lt (release J j) x))
    where
      over : Overfull J (release J j) b
      over =
          record {
            span = omega (arith, (p.good j v.known.0).span);
            within = within;
            more = omega (arith, v.inside (release J j) v.most.0, volume_if_inside J (release J j) b j (omega arith) l);
          }

      go : (x : ℕ) → Overfull J x b → Dec (release J j < x) → x ≤ release J j
      go x o (yes m) = absurd (visit_between j js sum top v x m o)
      go x o (no m) = omega arith

  -- the greatest start for the end b, from any state of the visit
  start_right : (js : List ℕ) (sum top : ℕ) → Visited J b js sum top → Starts J b (start_for J b js sum)
  unfolding start_for total
  start_right [] sum top v = λ a o. go a o (dec_le a top)
    where
      go : (a : ℕ) → Overfull J a b → Dec (a ≤ top) → ⊥
      go a o (yes m) = omega (arith, v.inside a m, v.room, o.more)
      go a o (no m) = v.later a (omega arith) o
  start_right (j ∷ js) sum top v = go (leb (deadline J j) b) refl (ltb (b - release J j) (sum + volume J j)) refl (start_right js sum top) (start_right js (sum + volume J j) (release J j))
    where
      go : (d : Bool) → leb (deadline J j) b ≡ d → (t : Bool) → ltb (b - release J j) (sum + volume J j) ≡ t
          → (Visited J b js sum top → Starts J b (start_for J b js sum))
          → (Visited J b js (sum + volume J j) (release J j) → Starts J b (start_for J b js (sum + volume J j)))
          → Starts J b (elim d [ false ↦ start_for J b js sum | true ↦ elim t [ true ↦ some (release J j) | false ↦ start_for J b js (sum + volume J j) ] ])
      go false d t e past next = past (visit_late j js sum top (leb-false (deadline J j) b d) v)
      go true d true e past next = visit_found j js sum top (leb-true (deadline J j) b d) (ltb-true (b - release J j) (sum + volume J j) e) v
      go true d false e past next = next (visit_next j js sum top (leb-true (deadline J j) b d) (ltb-false (b - release J j) (sum + volume J j) e) v)

-- jobs are released before the horizon
known_most : (J : Jobs) → Passes J → (l : List ℕ) → AtMost suc (count J) l → AtMost (release J) J.horizon l
known_most J p [] k = tt
known_most J p (j ∷ js) (k, ks) = (omega (arith, p.good j k), known_most J p js ks)

module _ (J : Jobs) (p : Passes J) (js : List ℕ) (by_release : InOrder (release J) (count J) js) where
  -- the greatest start for the end b
  start_for_lem : (b : ℕ) → b ≤ J.horizon → Starts J b (start_for J b js 0)
  unfolding volume_inside
  start_for_lem b within =
      start_right J p b within js 0 J.horizon (record {
        known = by_release.below;
        most = known_most J p js by_release.below;
        falling = by_release.falling;
        room = omega arith;
        later = λ a l o. omega (arith, o.span);
        inside = λ a l. omega (arith, by_release.once (volume_if J a b));
      })

  -- where no overloaded interval ends before b, but one ends there, the greatest start for b is shown
  pub least_end_shown :
      (a b : ℕ) → Overfull J a b → ((x y : ℕ) → y < b → Overfull J x y → ⊥) →
      some (record { a = start_or 0 (start_for J b js 0); b = b }) ≡ shown_overload J
  least_end_shown a b o n = go (start_for J b js 0) (start_for_lem b o.within)
    where
      go : (s : Option ℕ) → Starts J b s → some (record { a = start_or 0 s; b = b }) ≡ shown_overload J
      go none h = absurd (h a o)
      go (some s) (over, greatest) =
          shows_one J (some (record { a = s; b = b })) (shown_overload J)
          (record { over = over; least = λ x y w. least x y w (dec_lt y b); greatest = greatest }) (shows J)
        where
          least : (x y : ℕ) → Overfull J x y → Dec (y < b) → b ≤ y
          least x y w (yes l) = absurd (n x y l w)
          least x y w (no l) = omega arith

pub no_end_shown : (J : Jobs) → ((a b : ℕ) → Overfull J a b → ⊥) → none ≡ shown_overload J
no_end_shown J n = shows_one J none (shown_overload J) n (shows J)
