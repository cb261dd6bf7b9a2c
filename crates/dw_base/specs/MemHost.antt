-- The failed calls that a host in memory keeps, and the counts that come from them.
use Rattle.std.specs.Prelude.{◌≡◌, ◌+◌, ◌-◌, ◌^◌, ℕ, min, Contains, List, [], ◌∷◌, Bool, true, false, ◌&&◌, if◌then◌else◌, string_bytes}
use Rattle.std.specs.Str.{bytes_eq}
use Rattle.dw_base.specs.declared.files.NamedFile.{NamedFile}
use Rattle.dw_base.specs.declared.mem_host.MemHost.{MemHost}
use Rattle.dw_base.specs.declared.mem_host.CallKind.{CallKind}
use Rattle.dw_base.specs.declared.mem_host.CallKind.TheVariants.{Read, Write, Say}
use Rattle.dw_base.specs.declared.mem_host.FailedCall.{FailedCall}

-- two kinds of call are the same
abbrev pub same_kind : CallKind → CallKind → Bool
same_kind Read Read = true
same_kind Write Write = true
same_kind Say Say = true
same_kind _ _ = false

-- how many of the failed calls of a kind had this name
abbrev pub faults_of : CallKind → List ℕ → List FailedCall → ℕ
faults_of kind name [] = 0
faults_of kind name (call ∷ calls) =
    (if same_kind kind call.kind && bytes_eq (string_bytes call.name) name then 1 else 0) + faults_of kind name calls

-- how many of the failed calls were to say something
abbrev pub say_faults_of : List FailedCall → ℕ
say_faults_of [] = 0
say_faults_of (call ∷ calls) = (if same_kind Say call.kind then 1 else 0) + say_faults_of calls

-- the files that the host holds
abbrev pub files_of : MemHost → List NamedFile
files_of host = host.files.items

-- the numbers of the calls that are to fail
abbrev pub failing_of : MemHost → List ℕ
failing_of host = host.failing.items

-- the number of the next call
abbrev pub calls_of : MemHost → ℕ
calls_of host = host.calls

-- how many bytes a read gives at most
abbrev pub piece_of : MemHost → ℕ
piece_of host = host.piece

-- the next call is to fail
abbrev pub IsDue : MemHost → Type 0
IsDue host = Contains (failing_of host) (calls_of host)

-- a call was counted, by a number that stays at the last value of its type; the list of calls that are to fail stays, and so does how many
-- bytes a read gives
abbrev pub CountsCall : MemHost → MemHost → Type 0
CountsCall old new =
    (calls_of new ≡ min (calls_of old + 1) (2 ^ 64 - 1)) × (failing_of new ≡ failing_of old) × (piece_of new ≡ piece_of old)
