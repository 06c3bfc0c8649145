-- What the witness `rewritten` refuses with: the number is reading's, or writing's.
use Rattle.std.specs.Prelude.{ℕ}
use Rattle.frame.specs.Read as read
use Rattle.writing.specs.Write as write
use Rattle.frame_claims.specs.declared.RewriteRefusal.{RewriteRefusal}
use Rattle.frame_claims.specs.declared.RewriteRefusal.TheVariants.{NotRead, NotWritten}

abbrev pub number_of : RewriteRefusal → ℕ
number_of (NotRead refusal) = read.number_of refusal
number_of (NotWritten refusal) = write.number_of refusal
