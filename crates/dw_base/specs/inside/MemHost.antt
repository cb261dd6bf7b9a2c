-- The failed calls that a host in memory keeps, and the counts that come from them.
-- Inner functions and proofs alone need what stands here.
use Rattle.std.specs.Prelude.{◌≡◌, ℕ, List, [], ◌∷◌, ◌++◌, string_bytes}
use Rattle.dw_base.specs.declared.host.Stop.{Stop}
use Rattle.dw_base.specs.declared.host.Stop.TheVariants.{Failed, NoMemory}
use Rattle.dw_base.specs.declared.mem_host.CallKind.{CallKind}
use Rattle.dw_base.specs.declared.mem_host.FailedCall.{FailedCall}

-- a failed call is noted, or for want of memory it isn't
abbrev pub NotesFailure : List FailedCall → List FailedCall → CallKind → List ℕ → Stop → Type 0
NotesFailure old new kind name Failed =
    (call : FailedCall) × (call.kind ≡ kind) × (string_bytes call.name ≡ name) × (new ≡ old ++ call ∷ [])
NotesFailure old new kind name NoMemory = new ≡ old
