-- Entries that are written, and the codes 0 that end chains, stand without a byte too many.
use Rattle.std.proofs.Common.{◌≡◌, ◌≤◌, ◌<◌, ◌+◌, ◌-◌, ℕ, zero, suc, List, [], ◌∷◌, ◌++◌, length, ◌∙◌, sym, ap, subst, arith}
use Rattle.std.specs.Prelude.{map}
use Rattle.leb_codec.specs.Leb.{Uleb, ShortestUnsigned, least_unsigned_len}
use Rattle.leb_codec.proofs.Lens.{least_unsigned, least_below}
use Rattle.form_codec.specs.declared.value.Value.{Value}
use Rattle.form_codec.specs.Forms.{Meaning}
use Rattle.form_codec.specs.Values.{meant_in}
use Rattle.abbrev_tables.specs.declared.decl.Spec.{Spec}
use Rattle.abbrev_tables.specs.Tables.{Declared}
use Rattle.entry_arena.specs.declared.entry.Entry.{Entry}
use Rattle.entry_arena.specs.Arena.{entry_at}
use Rattle.entry_arena.specs.Trees.{declared_at, bytes_between, SpellsBetween}
use Rattle.entry_arena.proofs.Between.{length_between}
use Rattle.entry_arena.proofs.SpellingLaws.{cut}
use Rattle.entry_read.specs.Short.{IsWritten, WrittenBetween, StandsShort, EndsShort}
use Rattle.unit_write.specs.Moved.{NewValues}
use Rattle.unit_write.specs.inside.Puts.{renewed_at, PutsValues}
use Rattle.spelled.proofs.Parts.{own_part}

-- what values mean anew, of which the first has a number
abbrev pub renamed : List ℕ → NewValues → ℕ → List Value → List Meaning
renamed section anew i [] = []
renamed section anew i (v ∷ vs) = renewed_at anew i (meant_in section v) ∷ renamed section anew (suc i) vs

-- values that mean what was written stand in what was written
pub values_short : (old new : List ℕ) (anew : NewValues) (i : ℕ) (cs : List Spec) (vs ws : List Value) (from to : ℕ) → from ≤ to → to ≤ length new → PutsValues old anew i cs vs (bytes_between new from to) → map (meant_in new) ws ≡ renamed old anew i vs → WrittenBetween new cs ws from to
values_short old new anew i [] [] [] from to order inside p e =
    let size : to - from ≡ 0 = sym (length_between new from to inside) ∙ ap length p in
    omega arith
values_short old new anew i [] [] (w ∷ ws) from to order inside p e = absurd (cc (e))
values_short old new anew i [] (v ∷ vs) ws from to order inside p e = absurd p
values_short old new anew i (c ∷ cs) [] ws from to order inside p e = absurd p
values_short old new anew i (c ∷ cs) (v ∷ vs) [] from to order inside p e = absurd (cc (e))
values_short old new anew i (c ∷ cs) (v ∷ vs) (w ∷ ws) from to order inside (first, rest, x, p, whole) e =
    let here : meant_in new w ≡ renewed_at anew i (meant_in old v) = cc (e) in
    let there : map (meant_in new) ws ≡ renamed old anew (suc i) vs = cc (e) in
    let k = cut new from to first rest order inside whole in
    let before : k.mid ≤ to = k.before in
    let bytes : IsWritten c (renewed_at anew i (meant_in old v)) (bytes_between new from k.mid) = subst (λ (z : List ℕ). IsWritten c (renewed_at anew i (meant_in old v)) z) (sym k.first) x in
    let written : IsWritten c (meant_in new w) (bytes_between new from k.mid) = subst (λ (m : Meaning). IsWritten c m (bytes_between new from k.mid)) (sym here) bytes in
    let others : PutsValues old anew (suc i) cs vs (bytes_between new k.mid to) = subst (λ (z : List ℕ). PutsValues old anew (suc i) cs vs z) (sym k.second) p in
    (k.mid, record { order = k.after; inside = omega arith; spelled = written }, values_short old new anew (suc i) cs vs ws k.mid to k.before inside others there)

-- so does an entry whose code and values are written, whatever values are listed behind its own
pub entry_short : (section : List ℕ) (ds : List Declared) (before vs more : List Value) (at mid to depth decl : ℕ) → at ≤ to → SpellsBetween (ShortestUnsigned ((declared_at ds decl).code)) section at mid → WrittenBetween section ((declared_at ds decl).columns) vs mid to → StandsShort section ds ((before ++ vs) ++ more) (record { at = at; len = to - at; depth = depth; decl = decl; first = length before; count = length vs })
entry_short section ds before vs more at mid to depth decl order coded valued =
    let end : at + (to - at) ≡ to = omega arith in
    let up : WrittenBetween section ((declared_at ds decl).columns) vs mid (at + (to - at)) = subst (λ (n : ℕ). WrittenBetween section ((declared_at ds decl).columns) vs mid n) (sym end) valued in
    record {
      values_at = mid;
      coded = coded;
      valued = subst (λ (z : List Value). WrittenBetween section ((declared_at ds decl).columns) z mid (at + (to - at))) (sym (own_part before vs more)) up;
    }

-- one more entry before others
pub first_short : (section : List ℕ) (ds : List Declared) (values : List Value) (e : Entry) (entries : List Entry) → StandsShort section ds values e → ((k : ℕ) → k < length entries → StandsShort section ds values (entry_at entries k)) → (k : ℕ) → k < length (e ∷ entries) → StandsShort section ds values (entry_at (e ∷ entries) k)
first_short section ds values e entries first rest zero inside = first
first_short section ds values e entries first rest (suc k) inside = rest k (omega arith)

-- a code 0 of one byte is shortest
pub end_short : (section : List ℕ) (entry at to : ℕ) → to ≡ at + 1 → SpellsBetween (Uleb 0) section at to → EndsShort section (record { entry = entry; at = at })
end_short section entry at to one coded =
    let size : length (bytes_between section at to) ≡ to - at = length_between section at to coded.inside in
    let few : least_unsigned_len 0 ≤ 1 = least_below 0 1 (record { some = omega arith; below = omega arith }) in
    let some : 1 ≤ least_unsigned_len 0 = (least_unsigned 0).enough.some in
    let short : SpellsBetween (ShortestUnsigned 0) section at to = record { order = coded.order; inside = coded.inside; spelled = (coded.spelled.0, omega arith) } in
    subst (λ (n : ℕ). SpellsBetween (ShortestUnsigned 0) section at n) one short
