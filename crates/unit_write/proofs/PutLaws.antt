-- Bytes that are written one after the other.
use Rattle.std.proofs.Common.{◌≡◌, ◌≤◌, ◌<◌, ◌+◌, ℕ, ◌^◌, zero, suc, List, [], ◌∷◌, ◌++◌, length, drop, get_or, drop-cons, add-one, add-zero, ◌∙◌, sym, ap, refl, subst, arith}
use Rattle.std.proofs.lemmas.List.{append-nil, append_assoc, drop_all, get_or_read_under}
use Rattle.form_codec.specs.declared.value.Value.TheVariants as value
use Rattle.spelled.specs.Spelled.{Appends}
use Rattle.leb_codec.specs.Digits.{Extends}
use Rattle.leb_codec.specs.Leb.{Uleb, ShortestUnsigned, least_unsigned_len}
use Rattle.form_codec.specs.declared.form.Width.TheVariants.{Two, Four}
use Rattle.form_codec.specs.declared.value.Value.{Value}
use Rattle.form_codec.specs.Values.{meant_in}
use Rattle.form_codec.specs.Written.{low_bytes}
use Rattle.abbrev_tables.specs.declared.decl.Spec.{Spec}
use Rattle.abbrev_tables.specs.Listings.{Listing, spec_at}
use Rattle.entry_arena.specs.Arena.{Arena, entry_at, value_at}
use Rattle.unit_write.specs.Placing.{columns_of, values_in}
use Rattle.entry_read.specs.Short.{IsWritten}
use Rattle.unit_write.specs.Values.{renewed, HasSize, HaveSize}
use Rattle.unit_write.specs.Moved.{NewValues}
use Rattle.unit_write.specs.inside.Puts.{renewed_at, PutsValues, PutsEntry, own_bytes, header_bytes}

six_parts : (o a b k e t x : List ℕ) → (((((o ++ a) ++ b) ++ k) ++ e) ++ t) ++ x ≡ o ++ (a ++ (b ++ (k ++ (e ++ (t ++ x)))))
six_parts o a b k e t x = simp append_assoc

pub head_put : (len kind table extra offset : ℕ) (o a b k e t x : List ℕ) → a ≡ o ++ low_bytes Four len → b ≡ a ++ low_bytes Two 5 → k ≡ b ++ kind ∷ [] → e ≡ k ++ 8 ∷ [] → t ≡ e ++ low_bytes Four table → x ≡ t ++ own_bytes kind extra offset → x ≡ o ++ header_bytes len kind table extra offset
head_put len kind table extra offset o a b k e t x p q r s u v =
    v ∙ ap (λ z. z ++ own_bytes kind extra offset) (u ∙ ap (λ z. z ++ low_bytes Four table) (s ∙ ap (λ z. z ++ 8 ∷ []) (r ∙ ap (λ z. z ++ kind ∷ []) (q ∙ ap (λ z. z ++ low_bytes Two 5) p)))) ∙ six_parts o (low_bytes Four len) (low_bytes Two 5) (kind ∷ []) (8 ∷ []) (low_bytes Four table) (own_bytes kind extra offset)

-- after so many of the values, of which the first has a number
pub record ArePut (section : List ℕ) (anew : NewValues) (first : ℕ) (cs : List Spec) (vs : List Value) (place : ℕ) (old new : List ℕ) : Type 0 where
  pub bytes : List ℕ
  pub out : new ≡ old ++ bytes
  pub more : (rest : List ℕ) → PutsValues section anew (first + place) (drop place cs) (drop place vs) rest → PutsValues section anew first cs vs (bytes ++ rest)

drop_one : {A : Type 0} (xs : List A) (i : ℕ) (d : A) → i < length xs → drop i xs ≡ get_or xs i d ∷ drop (i + 1) xs
drop_one xs i d h = rw (add-one, drop-cons xs i d)

first_put : (section : List ℕ) (anew : NewValues) (k : ℕ) (ds : List Spec) (c : Spec) (cs : List Spec) (ws : List Value) (v : Value) (vs : List Value) (b rest : List ℕ) → ds ≡ c ∷ cs → ws ≡ v ∷ vs → IsWritten c (renewed_at anew k (meant_in section v)) b → PutsValues section anew (suc k) cs vs rest → PutsValues section anew k ds ws (b ++ rest)
first_put section anew k ds c cs ws v vs b rest e f w p =
    let whole : PutsValues section anew k (c ∷ cs) (v ∷ vs) (b ++ rest) = (b, rest, w, p, refl) in
    let values = subst (λ (z : List Value). PutsValues section anew k (c ∷ cs) z (b ++ rest)) (sym f) whole in
    subst (λ (z : List Spec). PutsValues section anew k z ws (b ++ rest)) (sym e) values

module _ (section : List ℕ) (anew : NewValues) (first : ℕ) (cs : List Spec) (vs : List Value) where
  pub none_put : (old : List ℕ) → ArePut section anew first cs vs 0 old old
  none_put old = record {
    bytes = [];
    out = sym (append-nil old);
    more = λ rest p. subst (λ (k : ℕ). PutsValues section anew k cs vs rest) (add-zero first) p;
  }

  pub value_put : (place number : ℕ) (old mid new : List ℕ) → ArePut section anew first cs vs place old mid → number ≡ first + place → place < length cs → place < length vs → Appends (IsWritten (spec_at cs place)) (renewed_at anew number (meant_in section (value_at vs place))) mid new → ArePut section anew first cs vs (place + 1) old new
  value_put place number old mid new a is p q (b, w, e) = record {
    bytes = a.bytes ++ b;
    out = e ∙ ap (λ z. z ++ b) a.out ∙ append_assoc old a.bytes b;
    more = λ rest later.
        let next : first + (place + 1) ≡ suc (first + place) = omega arith in
        let others = subst (λ (k : ℕ). PutsValues section anew k (drop (place + 1) cs) (drop (place + 1) vs) rest) next later in
        let own = subst (λ (k : ℕ). IsWritten (spec_at cs place) (renewed_at anew k (meant_in section (value_at vs place))) b) is w in
        let here = first_put section anew (first + place) (drop place cs) (spec_at cs place) (drop (place + 1) cs) (drop place vs) (value_at vs place) (drop (place + 1) vs) b rest (drop_one cs place _ p) (drop_one vs place _ q) own others in
        subst (PutsValues section anew first cs vs) (sym (append_assoc a.bytes b rest)) (a.more (b ++ rest) here);
  }

  pub all_put : (place : ℕ) (old new : List ℕ) → ArePut section anew first cs vs place old new → length cs ≤ place → length vs ≤ place → Appends (PutsValues section anew first cs) vs old new
  all_put place old new a p q =
      let none : PutsValues section anew (first + place) (drop place cs) (drop place vs) [] = rw (drop_all place cs p, drop_all place vs q) refl in
      (a.bytes, subst (PutsValues section anew first cs vs) (append-nil a.bytes) (a.more [] none), a.out)

-- the same value, number and bytes by other names
pub value_as : (column : Spec) (section : List ℕ) (i k : ℕ) (made others : List ℕ) (v w : Value) (old new : List ℕ) → i ≡ k → made ≡ others → v ≡ w → Appends (IsWritten column) (renewed i made (meant_in section v)) old new → Appends (IsWritten column) (renewed k others (meant_in section w)) old new
value_as column section i k made others v w old new e f g p =
    let a = subst (λ (z : ℕ). Appends (IsWritten column) (renewed z made (meant_in section v)) old new) e p in
    let b = subst (λ (z : List ℕ). Appends (IsWritten column) (renewed k z (meant_in section v)) old new) f a in
    subst (λ (z : Value). Appends (IsWritten column) (renewed k others (meant_in section z)) old new) g b

pub sized_lengths : (section : List ℕ) (cs : List Spec) (vs : List Value) (lens : List ℕ) (size : ℕ) → HaveSize section cs vs lens size → length cs ≡ length vs
sized_lengths section [] [] [] size h = refl
sized_lengths section [] [] (n ∷ lens) size h = absurd h
sized_lengths section [] (v ∷ vs) lens size h = absurd h
sized_lengths section (c ∷ cs) [] lens size h = absurd h
sized_lengths section (c ∷ cs) (v ∷ vs) [] size h = absurd h
sized_lengths section (c ∷ cs) (v ∷ vs) (n ∷ lens) size h = ap suc (sized_lengths section cs vs lens h.1 h.3)

-- a value that is read at the place of a column
pub value_read : (section : List ℕ) (cs : List Spec) (vs : List Value) (lens : List ℕ) (size place : ℕ) (v : Value) → HaveSize section cs vs lens size → place < length cs → v ≡ get_or vs place v → v ≡ value_at vs place
value_read section cs vs lens size place v h lt read =
    let same : length cs ≡ length vs = sized_lengths section cs vs lens size h in
    get_or_read_under vs place (length vs) v (value.Addr 0) read (omega arith) refl

pub size_at : (section : List ℕ) (cs : List Spec) (vs : List Value) (lens : List ℕ) (size place : ℕ) → HaveSize section cs vs lens size → place < length cs → (len : ℕ) × (n : ℕ) × HasSize (spec_at cs place) (meant_in section (value_at vs place)) len n
size_at section [] vs lens size place h lt = absurd (omega arith)
size_at section (c ∷ cs) [] lens size place h lt = absurd h
size_at section (c ∷ cs) (v ∷ vs) [] size place h lt = absurd h
size_at section (c ∷ cs) (v ∷ vs) (n ∷ lens) size zero h lt = (n, h.0, h.2)
size_at section (c ∷ cs) (v ∷ vs) (n ∷ lens) size (suc place) h lt = size_at section cs vs lens h.1 place h.3 (omega arith)

pub extends_more : (old mid new : List ℕ) → Extends old mid → Extends mid new → Extends old new
extends_more old mid new (a, e) (b, g) = (a ++ b, g ∙ ap (λ z. z ++ b) e ∙ append_assoc old a b)

pub values_as : (s t : List ℕ) (anew : NewValues) (i k : ℕ) (cs ds : List Spec) (vs ws : List Value) (rest : List ℕ) → s ≡ t → i ≡ k → cs ≡ ds → vs ≡ ws → PutsValues s anew i cs vs rest → PutsValues t anew k ds ws rest
values_as s t anew i k cs ds vs ws rest e h f g p =
    let a = subst (λ (z : List ℕ). PutsValues z anew i cs vs rest) e p in
    let b = subst (λ (z : ℕ). PutsValues t anew z cs vs rest) h a in
    let c = subst (λ (z : List Spec). PutsValues t anew k z vs rest) f b in
    subst (λ (z : List Value). PutsValues t anew k ds z rest) g c

pub size_as : (s t : List ℕ) (cs ds : List Spec) (vs ws : List Value) (lens : List ℕ) (n : ℕ) → s ≡ t → cs ≡ ds → vs ≡ ws → HaveSize t ds ws lens n → HaveSize s cs vs lens n
size_as s t cs ds vs ws lens n e f g p =
    let a = subst (λ (z : List Value). HaveSize t ds z lens n) (sym g) p in
    let b = subst (λ (z : List Spec). HaveSize t z vs lens n) (sym f) a in
    subst (λ (z : List ℕ). HaveSize z cs vs lens n) (sym e) b

pub entry_put : (table : Listing) (columns : List Spec) (numbers : List ℕ) (anew : NewValues) (f : Arena) (id n : ℕ) (s : List ℕ) (first : ℕ) (cs : List Spec) (vs : List Value) (o a b : List ℕ) → n ≡ get_or numbers (entry_at f.entries id).decl 0 → s ≡ f.section → first ≡ (entry_at f.entries id).first → cs ≡ columns_of table columns (entry_at f.entries id).decl → vs ≡ values_in f id → n < 2 ^ 64 → Appends ShortestUnsigned n o a → Appends (PutsValues s anew first cs) vs a b → Appends (PutsEntry table columns numbers anew f) id o b
entry_put table columns numbers anew f id n s first cs vs o a b en es ei ec ev fits (code, short, p) (rest, put, q) = (
  code ++ rest,
  record {
    code = code;
    rest = rest;
    coded = subst (λ (z : ℕ). Uleb z code) en (short.0, fits);
    shortest = short.1 ∙ ap least_unsigned_len en;
    valued = values_as s f.section anew first (entry_at f.entries id).first cs (columns_of table columns (entry_at f.entries id).decl) vs (values_in f id) rest es ei ec ev put;
    whole = refl;
  },
  q ∙ ap (λ z. z ++ rest) p ∙ append_assoc o code rest,
)
