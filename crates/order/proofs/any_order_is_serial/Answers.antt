use Rattle.std.proofs.Common.{refl}
use Rattle.order.proofs.Serial.{any_order}
use Rattle.order.proofs.any_order_is_serial.Goals as goal

-- src/lib.rt:8:1
pub returns : goal.returns
returns g c = record { law = any_order; value = refl }
