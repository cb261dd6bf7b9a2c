-- What the parts of the work do to the counts of faults of a host.
use Rattle.std.specs.Prelude.{◌≡◌, ◌≤◌, ◌<◌, ℕ, List, length, take, Option, Result, Ok, Err, ⊤}
use Rattle.std.specs.Option.{ForSome}
use Rattle.commands.specs.File.{Faulty}
use Rattle.dw_base.specs.declared.fault.Kind.TheVariants.{Limit}
use Rattle.dw_base.specs.Host.{Rose}
use Rattle.commands.specs.declared.ending.Ending.{Ending}
use Rattle.commands.specs.declared.ending.Ending.TheVariants.{Refused, ReadFault, WriteFault, NoMemory}
use Rattle.commands.specs.Run.{input_limit}

-- A read fault comes for this cause, and else no count of reads rises. No other end but want of memory comes.
abbrev pub OnlyReadFault : {T : Type 0} → Type 0 → (List ℕ → ℕ) → (List ℕ → ℕ) → Result T Ending → Type 0
OnlyReadFault cause before now (Ok x) = (f : List ℕ) → now f ≡ before f
OnlyReadFault cause before now (Err (Refused fault)) = ⊥
OnlyReadFault cause before now (Err ReadFault) = cause
OnlyReadFault cause before now (Err WriteFault) = ⊥
OnlyReadFault cause before now (Err NoMemory) = (f : List ℕ) → now f ≡ before f

-- A write fault comes for this cause, and else no count of writes rises. No other end but want of memory comes.
abbrev pub OnlyWriteFault : {T : Type 0} → Type 0 → (List ℕ → ℕ) → (List ℕ → ℕ) → Result T Ending → Type 0
OnlyWriteFault cause before now (Ok x) = (f : List ℕ) → now f ≡ before f
OnlyWriteFault cause before now (Err (Refused fault)) = ⊥
OnlyWriteFault cause before now (Err ReadFault) = ⊥
OnlyWriteFault cause before now (Err WriteFault) = cause
OnlyWriteFault cause before now (Err NoMemory) = (f : List ℕ) → now f ≡ before f

-- what was read goes on with n bytes of the file, of which none is left where n is 0
abbrev pub IsReadOn : List ℕ → List ℕ → List ℕ → ℕ → Type 0
IsReadOn file old new n =
    old ≡ take (length old) file → (new ≡ take (length new) file) × (n ≡ 0 → length file ≤ length new)

-- a read fault is the end exactly where the count rose, but for a count at the last value of its type
abbrev pub HasReadCause : {T : Type 0} → ℕ → ℕ → Result T Ending → Type 0
HasReadCause before now (Ok x) = now ≡ before
HasReadCause before now (Err (Refused fault)) = now ≡ before
HasReadCause before now (Err ReadFault) = Rose before now
HasReadCause before now (Err WriteFault) = now ≡ before
HasReadCause before now (Err NoMemory) = now ≡ before

-- a write fault is the end for this cause alone, and else no count of writes rises
abbrev pub HasWriteCause : {T : Type 0} → Type 0 → (List ℕ → ℕ) → (List ℕ → ℕ) → Result T Ending → Type 0
HasWriteCause cause before now (Ok x) = (f : List ℕ) → now f ≡ before f
HasWriteCause cause before now (Err (Refused fault)) = (f : List ℕ) → now f ≡ before f
HasWriteCause cause before now (Err ReadFault) = (f : List ℕ) → now f ≡ before f
HasWriteCause cause before now (Err WriteFault) = cause
HasWriteCause cause before now (Err NoMemory) = (f : List ℕ) → now f ≡ before f

-- a refusal and a read fault leave every file as it was
abbrev pub LeavesFiles : {T : Type 0} → (List ℕ → Option (List ℕ)) → (List ℕ → Option (List ℕ)) → Result T Ending → Type 0
LeavesFiles old new (Ok x) = ⊤
LeavesFiles old new (Err (Refused fault)) = (f : List ℕ) → new f ≡ old f
LeavesFiles old new (Err ReadFault) = (f : List ℕ) → new f ≡ old f
LeavesFiles old new (Err WriteFault) = ⊤
LeavesFiles old new (Err NoMemory) = ⊤

-- a refusal names a fault of the file that was read, where that is told
abbrev pub EndsByFault : {T : Type 0} → Option (List ℕ) → Result T Ending → Type 0
EndsByFault told (Ok x) = ⊤
EndsByFault told (Err (Refused fault)) = ForSome told (λ file. Faulty file fault.kind fault.place)
EndsByFault told (Err ReadFault) = ⊤
EndsByFault told (Err WriteFault) = ⊤
EndsByFault told (Err NoMemory) = ⊤

-- An input that is longer, where it is told, is refused as Limit at 0, whatever its first bytes are.
abbrev pub RefusesLong : {T : Type 0} → Option (List ℕ) → Result T Ending → Type 0
RefusesLong told (Ok x) = ForSome told (λ file. length file ≤ input_limit)
RefusesLong told (Err (Refused fault)) = ForSome told (λ file. input_limit < length file → fault ≡ record { kind = Limit; place = 0 })
RefusesLong told (Err ReadFault) = ⊤
RefusesLong told (Err WriteFault) = ⊤
RefusesLong told (Err NoMemory) = ⊤
