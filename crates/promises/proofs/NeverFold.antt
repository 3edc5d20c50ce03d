-- The stretch of C-22 by its ends and by their milliseconds.
use Rattle.std.specs.Prelude.{◌↔◌}
use Rattle.rules.specs.declared.Tt.{Tt}
use Rattle.laws.specs.Stretch as stretch
use Rattle.promises.specs.NeverFold.{InStretch}

pub same_stretch : (t : Tt) → InStretch t ↔ stretch.InStretch t.0
same_stretch t = rw (stretch.first_tt, stretch.last_tt) (λ h. h, λ h. h)
