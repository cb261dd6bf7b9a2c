-- A law: a file that is written anew is accepted with its certificate.
use Rattle.std.specs.Prelude.{ℕ, List}
use Rattle.dw_base.specs.declared.classes.Classes.{Classes}
use Rattle.written_files.specs.Certificates.{IsCertificate}
use Rattle.written_files.specs.Written.{IsWrittenAnew}
use Rattle.verdict.specs.Accepts.{Accepts}

abbrev pub WrittenAreAccepted : Type 0
WrittenAreAccepted = (classes : Classes) (file written certificate : List ℕ) → IsWrittenAnew classes file written → IsCertificate classes written certificate → Accepts classes file written certificate
