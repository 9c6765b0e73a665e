-- No interval is overloaded: in each there is room for the jobs inside.
use Rattle.std.specs.Prelude.{ℕ, ◌-◌, ◌≤◌, ◌<◌, ◌≡◌, false}
use Rattle.std.proofs.Common.{ltb-false, lt-ltb, le-leb}
use Rattle.sched.specs.Jobs.{Jobs, volume}
use Rattle.sched.specs.Checks.{Passes}
use Rattle.steps.specs.Overload.{volume_if, volume_inside, overloaded}
use Rattle.laws_edf.specs.Run.{spans}
use Rattle.laws_edf.proofs.Shortage.{units_inside}
use Rattle.laws_edf.proofs.Touching.{Fits}

not_overloaded : (J : Jobs) (a b : ℕ) → overloaded J a b ≡ false → a < b → b ≤ J.horizon → volume_inside J a b ≤ b - a
unfolding overloaded
not_overloaded J a b e l m =
    ltb-false (b - a) (volume_inside J a b) (rw (lt-ltb a b l, le-leb b J.horizon m) at e)

pub no_overload_fits : (J : Jobs) → Passes J → ((a b : ℕ) → overloaded J a b ≡ false) → Fits (spans J) (volume J) J.horizon
unfolding volume_inside volume_if units_inside
no_overload_fits J p f =
    record {
      span = λ j l. (p.good j l).span;
      within = λ j l. (p.good j l).within;
      room = λ a b l m. not_overloaded J a b (f a b) l m;
    }
