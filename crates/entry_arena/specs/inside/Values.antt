-- How values are held: what each is beside a number of 32 bits, and that number; or the number of one that is held whole.
-- Private functions alone cite this, and the model of a forest.
use Rattle.std.specs.Prelude.{◌≡◌, ◌<◌, ℕ, List, [], ◌∷◌, length, pos, true, false, slice_index_or}
use Rattle.form_codec.specs.declared.value.Value.{Value}
use Rattle.form_codec.specs.declared.value.Value.TheVariants as value
use Rattle.entry_arena.specs.declared.values.Kind.{Kind}
use Rattle.entry_arena.specs.declared.values.Kind.TheVariants as kind
use Rattle.entry_arena.specs.Arena.{value_at}

-- the value of a kind with a number, where `others` are those that are held whole
unfoldable pub value_held : List Value → Kind → ℕ → Value
value_held others kind.Addr n = value.Addr n
value_held others kind.AddrIndex n = value.AddrIndex n
value_held others kind.Int n = value.Int (pos n)
value_held others kind.FixedOne n = value.Fixed 1 n
value_held others kind.FixedTwo n = value.Fixed 2 n
value_held others kind.Clear n = value.Flag false
value_held others kind.Set n = value.Flag true
value_held others kind.LocalRef n = value.LocalRef n
value_held others kind.SectionRef n = value.SectionRef n
value_held others kind.StrOffset n = value.StrOffset n
value_held others kind.LineStrOffset n = value.LineStrOffset n
value_held others kind.StrIndex n = value.StrIndex n
value_held others kind.Offset n = value.Offset n
value_held others kind.LocIndex n = value.LocIndex n
value_held others kind.RangeIndex n = value.RangeIndex n
value_held others kind.Other n = value_at others n

-- values by their kinds and numbers, one by one
unfoldable pub values_held : List Kind → List ℕ → List Value → List Value
values_held [] numbers others = []
values_held (k ∷ kinds) [] others = []
values_held (k ∷ kinds) (n ∷ numbers) others = value_held others k n ∷ values_held kinds numbers others

-- each kind has its number, and that of one that is held whole names it
pub record AreHeldWell (kinds : List Kind) (numbers : List ℕ) (others : List Value) : Type 0 where
  pub paired : length numbers ≡ length kinds
  pub inside : (i : ℕ) → i < length kinds → slice_index_or kinds i kind.Clear ≡ kind.Other → slice_index_or numbers i 0 < length others
