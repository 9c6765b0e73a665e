-- `end` meets its contract: the slots of the horizon are the first bits of the map.
use Rattle.std.proofs.Common.{◌≡◌, ◌∙◌, sym, false, take, rules}
use lib.Seq.{get_or-take}
use Rattle.sched.specs.Slots.{awake}
use Rattle.record_map.specs.MapBits.{bits_of}
use Rattle.record_map.proofs.reader.end.Goals as goal

pub returns : goal.returns
returns c =
    let a = c.args in
    c.stretch_end.ensures (take a.h (bits_of a.bits.now))
    (λ t b l e.
    let told : b ≡ awake (bits_of a.bits.now) t = search rules in
    told ∙ sym (get_or-take a.h (bits_of a.bits.now) t false l))
