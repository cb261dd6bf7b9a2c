-- A law: a certificate whose records are accepted by the sizes that numbers need is accepted by those that stand, where these are the same.
use Rattle.std.specs.Prelude.{ℕ, List}
use Rattle.dw_base.specs.declared.classes.Classes.{Classes}
use Rattle.written_files.specs.Certificates.{IsCertificate}
use Rattle.unit_slots.specs.Laws.{NeededSizesStand}
use Rattle.check_records.specs.Accepted.{IsAccepted}

abbrev pub CertificatesAreAccepted : Type 0
CertificatesAreAccepted = (classes : Classes) (written certificate : List ℕ) → NeededSizesStand written → IsCertificate classes written certificate → IsAccepted classes written certificate
