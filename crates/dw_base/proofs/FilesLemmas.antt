-- Laws of the files kept as a list.
use Rattle.std.proofs.Common.{◌≡◌, ◌≢◌, ◌<◌, ℕ, zero, suc, List, [], ◌∷◌, ◌++◌, length, get_or, set, Bool, true, false, cond, ◌||◌, refl, sym, ◌∙◌, ap, arith, string_bytes}
use Rattle.std.specs.Str.{bytes_eq}
use Rattle.std.proofs.lemmas.Slice.Eq.{bytes_eq-Decides}
use Rattle.std.proofs.lemmas.Bool.{false≢true, false_from_ne_true}
use Rattle.dw_base.specs.declared.files.NamedFile.{NamedFile}
use Rattle.dw_base.specs.Files.{has_name, is_there, content}
use Rattle.dw_base.specs.inside.Files.{IsFirst}

or-false : (a b : Bool) → (a || b) ≡ false → (a ≡ false) × (b ≡ false)
or-false false b h = (refl, h)
or-false true b h = absurd (false≢true (sym h))

-- no file up to the end has the name
pub is_there-none : (files : List NamedFile) (name : List ℕ) → ((k : ℕ) (d : NamedFile) → k < length files → has_name name (get_or files k d) ≡ false) → is_there files name ≡ false
is_there-none [] name none = refl
is_there-none (file ∷ files) name none =
    let here : has_name name file ≡ false = none 0 file (omega arith) in
    rw here (is_there-none files name (λ k d lt. none (suc k) d (omega arith)))

-- the places after the first
IsFirst-rest : (file : NamedFile) (files : List NamedFile) (name : List ℕ) (i : ℕ) → IsFirst (file ∷ files) name (suc i) → IsFirst files name i
IsFirst-rest file files name i h = record {
  inside = omega (arith, h.inside);
  named = λ d. h.named d;
  before = λ k d lt. h.before (suc k) d (omega arith);
}

pub content-first : (files : List NamedFile) (name : List ℕ) (i : ℕ) (d : NamedFile) → IsFirst files name i → content files name ≡ (get_or files i d).bytes.items
content-first [] name i d h = absurd (omega (arith, h.inside))
content-first (file ∷ files) name zero d h = rw (h.named d)
content-first (file ∷ files) name (suc i) d h =
    rw (h.before 0 d (omega arith)) (content-first files name i d (IsFirst-rest file files name i h))

-- a file of the same name in the place of the first one
pub content-set_same : (files : List NamedFile) (name : List ℕ) (i : ℕ) (file : NamedFile) → IsFirst files name i → has_name name file ≡ true → content (set files i file) name ≡ file.bytes.items
content-set_same [] name i file h e = absurd (omega (arith, h.inside))
content-set_same (x ∷ files) name zero file h e = rw e
content-set_same (x ∷ files) name (suc i) file h e =
    rw (h.before 0 x (omega arith)) (content-set_same files name i file (IsFirst-rest x files name i h) e)

-- the other names
pub content-set_other : (files : List NamedFile) (f : List ℕ) (i : ℕ) (file d : NamedFile) → i < length files → has_name f file ≡ false → has_name f (get_or files i d) ≡ false → content (set files i file) f ≡ content files f
content-set_other [] f i file d lt new old = refl
content-set_other (x ∷ files) f zero file d lt new old = rw (new, old)
content-set_other (x ∷ files) f (suc i) file d lt new old =
    let rest : content (set files i file) f ≡ content files f = content-set_other files f i file d (omega arith) new old in
    ap (cond (has_name f x) x.bytes.items) rest

pub content-push_same : (files : List NamedFile) (name : List ℕ) (file : NamedFile) → is_there files name ≡ false → has_name name file ≡ true → content (files ++ file ∷ []) name ≡ file.bytes.items
content-push_same [] name file none e = rw e
content-push_same (x ∷ files) name file none e =
    let both = or-false (has_name name x) (is_there files name) none in
    rw both.0 (content-push_same files name file both.1 e)

pub content-push_other : (files : List NamedFile) (f : List ℕ) (file : NamedFile) → has_name f file ≡ false → content (files ++ file ∷ []) f ≡ content files f
content-push_other [] f file e = rw e
content-push_other (x ∷ files) f file e = ap (cond (has_name f x) x.bytes.items) (content-push_other files f file e)

-- two names, of which one is a file's
pub has_name-is : (name : List ℕ) (file : NamedFile) → string_bytes file.name ≡ name → has_name name file ≡ true
has_name-is name file e = (bytes_eq-Decides (string_bytes file.name) name).1 e

pub has_name-other : (name f : List ℕ) (file : NamedFile) → has_name name file ≡ true → f ≢ name → has_name f file ≡ false
has_name-other name f file e ne =
    false_from_ne_true (has_name f file) (λ (same : has_name f file ≡ true). ne (sym ((bytes_eq-Decides (string_bytes file.name) f).0 same) ∙ (bytes_eq-Decides (string_bytes file.name) name).0 e))

kept : (files : List NamedFile) (f : List ℕ) (i : ℕ) (new old : NamedFile) → i < length files → old ≡ get_or files i old → string_bytes new.name ≡ string_bytes old.name → new.bytes.items ≡ old.bytes.items → content (set files i new) f ≡ content files f
kept [] f i new old lt read e same = refl
kept (x ∷ files) f zero new old lt read e same =
    let named : has_name f new ≡ has_name f x = ap (λ y. bytes_eq y f) (e ∙ ap (λ (y : NamedFile). string_bytes y.name) read) in
    let bytes : new.bytes.items ≡ x.bytes.items = same ∙ ap (λ (y : NamedFile). y.bytes.items) read in
    rw (named, bytes)
kept (x ∷ files) f (suc i) new old lt read e same =
    ap (cond (has_name f x) x.bytes.items) (kept files f i new old (omega arith) read e same)

-- the first file of this name, under another content
pub content-written_same : (files : List NamedFile) (name : List ℕ) (i : ℕ) (old new : NamedFile) → IsFirst files name i → old ≡ get_or files i old → string_bytes new.name ≡ string_bytes old.name → content (set files i new) name ≡ new.bytes.items
content-written_same files name i old new first read e =
    let at_old : has_name name old ≡ true = rw read (first.named old) in
    content-set_same files name i new first (rw (ap (λ x. bytes_eq x name) e) at_old)

pub content-written_other : (files : List NamedFile) (name : List ℕ) (i : ℕ) (old new : NamedFile) → IsFirst files name i → old ≡ get_or files i old → string_bytes new.name ≡ string_bytes old.name → (f : List ℕ) → f ≢ name → content (set files i new) f ≡ content files f
content-written_other files name i old new first read e f ne =
    let other : has_name f (get_or files i old) ≡ false = has_name-other name f (get_or files i old) (first.named old) ne in
    let at_old : has_name f old ≡ false = rw read other in
    content-set_other files f i new old first.inside (rw (ap (λ x. bytes_eq x f) e) at_old) other

-- the same bytes written again
pub content-kept : (files : List NamedFile) (name : List ℕ) (i : ℕ) (old new : NamedFile) → IsFirst files name i → old ≡ get_or files i old → string_bytes new.name ≡ string_bytes old.name → new.bytes.items ≡ old.bytes.items → (f : List ℕ) → content (set files i new) f ≡ content files f
content-kept files name i old new first read e same f = kept files f i new old first.inside read e same

pub content-read : (files : List NamedFile) (name : List ℕ) (i : ℕ) (old : NamedFile) → IsFirst files name i → old ≡ get_or files i old → content files name ≡ old.bytes.items
content-read files name i old first read = content-first files name i old first ∙ ap (λ (x : NamedFile). x.bytes.items) (sym read)

-- a file that was made
pub content-made_same : (files : List NamedFile) (name : List ℕ) (new : NamedFile) → is_there files name ≡ false → string_bytes new.name ≡ name → content (files ++ new ∷ []) name ≡ new.bytes.items
content-made_same files name new none e = content-push_same files name new none (has_name-is name new e)

pub content-made_other : (files : List NamedFile) (name : List ℕ) (new : NamedFile) → string_bytes new.name ≡ name → (f : List ℕ) → f ≢ name → content (files ++ new ∷ []) f ≡ content files f
content-made_other files name new e f ne = content-push_other files f new (has_name-other name f new (has_name-is name new e) ne)

pub content-none : (files : List NamedFile) (name : List ℕ) → is_there files name ≡ false → content files name ≡ []
content-none [] name none = refl
content-none (x ∷ files) name none =
    let both = or-false (has_name name x) (is_there files name) none in
    rw both.0 (content-none files name both.1)

pub is_there-first : (files : List NamedFile) (name : List ℕ) (i : ℕ) → IsFirst files name i → is_there files name ≡ true
is_there-first [] name i h = absurd (omega (arith, h.inside))
is_there-first (x ∷ files) name zero h = rw (h.named x)
is_there-first (x ∷ files) name (suc i) h =
    rw (h.before 0 x (omega arith)) (is_there-first files name i (IsFirst-rest x files name i h))

-- which names there are, under another content of one file
pub is_there-written : (files : List NamedFile) (f : List ℕ) (i : ℕ) (old new : NamedFile) → i < length files → old ≡ get_or files i old → string_bytes new.name ≡ string_bytes old.name → is_there (set files i new) f ≡ is_there files f
is_there-written [] f i old new lt read e = refl
is_there-written (x ∷ files) f zero old new lt read e =
    let named : has_name f new ≡ has_name f x = ap (λ y. bytes_eq y f) (e ∙ ap (λ (y : NamedFile). string_bytes y.name) read) in
    rw named
is_there-written (x ∷ files) f (suc i) old new lt read e =
    ap (λ b. has_name f x || b) (is_there-written files f i old new (omega arith) read e)

pub is_there-written_same : (files : List NamedFile) (name : List ℕ) (i : ℕ) (old new : NamedFile) → IsFirst files name i → old ≡ get_or files i old → string_bytes new.name ≡ string_bytes old.name → is_there (set files i new) name ≡ true
is_there-written_same files name i old new first read e =
    is_there-written files name i old new first.inside read e ∙ is_there-first files name i first

or-true : (a : Bool) → (a || true) ≡ true
or-true false = refl
or-true true = refl

or-with_false : (a : Bool) → (a || false) ≡ a
or-with_false false = refl
or-with_false true = refl

or-assoc : (a b c : Bool) → (a || (b || c)) ≡ ((a || b) || c)
or-assoc false b c = refl
or-assoc true b c = refl

is_there-push : (files : List NamedFile) (f : List ℕ) (new : NamedFile) → is_there (files ++ new ∷ []) f ≡ (is_there files f || has_name f new)
is_there-push [] f new = or-with_false (has_name f new)
is_there-push (x ∷ files) f new =
    ap (λ b. has_name f x || b) (is_there-push files f new) ∙ or-assoc (has_name f x) (is_there files f) (has_name f new)

-- which names there are once a file was made
pub is_there-made_same : (files : List NamedFile) (name : List ℕ) (new : NamedFile) → string_bytes new.name ≡ name → is_there (files ++ new ∷ []) name ≡ true
is_there-made_same files name new e =
    is_there-push files name new ∙ (rw (has_name-is name new e) (or-true (is_there files name)))

pub is_there-made_other : (files : List NamedFile) (name : List ℕ) (new : NamedFile) → string_bytes new.name ≡ name → (f : List ℕ) → f ≢ name → is_there (files ++ new ∷ []) f ≡ is_there files f
is_there-made_other files name new e f ne =
    is_there-push files f new ∙ (rw (has_name-other name f new (has_name-is name new e) ne) (or-with_false (is_there files f)))
