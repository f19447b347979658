use Rattle.std.proofs.Common.{refl}
use Rattle.layout.proofs.reading_is_exact.Goals as goal
use Rattle.layout.proofs.Message.{message_laid, message_exact}

-- src/lib.rt:7:1
pub returns : goal.returns
returns c = record {
  law = record {
    laid_out_is_read = message_laid;
    read_is_laid_out = λ place bs h m rest. message_exact place bs h (m, rest);
  };
  value = refl;
}
