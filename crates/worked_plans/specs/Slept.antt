-- 02, cards 5 and 10: tables before and after the sleep rule.
use Rattle.std.specs.Prelude.{◌≡◌, refl, true, false, [], ◌∷◌, map}
use Rattle.sched.specs.Bounded.{least_from, last_below, values_from}
use Rattle.steps.specs.Sleep.{sleep_rule}

-- Tables of one job each. A stretch of one, two and three slots with wake costs 0 to 4; slots before the
-- first and after the last working one; no working slot; and bytes that are neither a job nor 254 or 255.
pub slept_tables :
    map (λ q. sleep_rule q false (254 ∷ 0 ∷ 254 ∷ 0 ∷ 255 ∷ 255 ∷ 0 ∷ 254 ∷ 255 ∷ 254 ∷ 0 ∷ 255 ∷ [])) (0 ∷ 1 ∷ 2 ∷ 3 ∷ 4 ∷ [])
    ≡ (255 ∷ 0 ∷ 255 ∷ 0 ∷ 255 ∷ 255 ∷ 0 ∷ 255 ∷ 255 ∷ 255 ∷ 0 ∷ 255 ∷ [])
    ∷ (255 ∷ 0 ∷ 255 ∷ 0 ∷ 255 ∷ 255 ∷ 0 ∷ 255 ∷ 255 ∷ 255 ∷ 0 ∷ 255 ∷ [])
    ∷ (255 ∷ 0 ∷ 254 ∷ 0 ∷ 255 ∷ 255 ∷ 0 ∷ 255 ∷ 255 ∷ 255 ∷ 0 ∷ 255 ∷ [])
    ∷ (255 ∷ 0 ∷ 254 ∷ 0 ∷ 254 ∷ 254 ∷ 0 ∷ 255 ∷ 255 ∷ 255 ∷ 0 ∷ 255 ∷ [])
    ∷ (255 ∷ 0 ∷ 254 ∷ 0 ∷ 254 ∷ 254 ∷ 0 ∷ 254 ∷ 254 ∷ 254 ∷ 0 ∷ 255 ∷ [])
    ∷ []
unfolding least_from last_below values_from sleep_rule
slept_tables = refl

pub slept_bytes :
    map (sleep_rule 9 false) ((254 ∷ 254 ∷ []) ∷ (63 ∷ 64 ∷ 253 ∷ 63 ∷ 64 ∷ []) ∷ [] ∷ []) ≡ (255 ∷ 255 ∷ []) ∷ (63 ∷ 254 ∷ 254 ∷ 63 ∷ 255 ∷ []) ∷ [] ∷ []
unfolding least_from last_below values_from sleep_rule
slept_bytes = refl

-- 02, card 10: the first seven slots of the same table from a start awake, whose first stretch has one slot; and stretches of one to three slots in
-- front of a working slot, with wake cost 2. With no working slot everything sleeps, whatever the start.
pub slept_awake :
    map (λ q. sleep_rule q true (254 ∷ 0 ∷ 254 ∷ 0 ∷ 255 ∷ 255 ∷ 0 ∷ [])) (0 ∷ 1 ∷ 2 ∷ 3 ∷ [])
    ≡ (255 ∷ 0 ∷ 255 ∷ 0 ∷ 255 ∷ 255 ∷ 0 ∷ [])
    ∷ (255 ∷ 0 ∷ 255 ∷ 0 ∷ 255 ∷ 255 ∷ 0 ∷ [])
    ∷ (254 ∷ 0 ∷ 254 ∷ 0 ∷ 255 ∷ 255 ∷ 0 ∷ [])
    ∷ (254 ∷ 0 ∷ 254 ∷ 0 ∷ 254 ∷ 254 ∷ 0 ∷ [])
    ∷ []
unfolding least_from last_below values_from sleep_rule
slept_awake = refl

pub slept_front :
    map (sleep_rule 2 true) ((0 ∷ 255 ∷ []) ∷ (255 ∷ 0 ∷ []) ∷ (254 ∷ 254 ∷ 0 ∷ []) ∷ (254 ∷ 254 ∷ 254 ∷ 0 ∷ []) ∷ (254 ∷ 254 ∷ []) ∷ [])
    ≡ (0 ∷ 255 ∷ []) ∷ (254 ∷ 0 ∷ []) ∷ (255 ∷ 255 ∷ 0 ∷ []) ∷ (255 ∷ 255 ∷ 255 ∷ 0 ∷ []) ∷ (255 ∷ 255 ∷ []) ∷ []
unfolding least_from last_below values_from sleep_rule
slept_front = refl
