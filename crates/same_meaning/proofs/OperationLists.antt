-- The operations of two expressions, one by one.
use Rattle.std.proofs.Common.{◌≡◌, ◌<◌, ◌+◌, inl, inr, ℕ, zero, suc, List, [], ◌∷◌, length, get_or, arith}
use Rattle.std.specs.List.{AllZip}
use Rattle.expr_ops.specs.declared.op.Op.{Op}
use Rattle.expr_ops.specs.Drafts.{op_at}
use Rattle.expr_ops.specs.Ops.{meant, all_meant, IsLead, Chain}
use Rattle.value_links.specs.Reading.{Linkable}
use Rattle.value_links.specs.Operations.{LinkedOperation, LinksOperation}
use Rattle.same_meaning.specs.inside.Compared.{MeanOne, AreLinkedTo, AreAllLinked}
use Rattle.same_meaning.specs.inside.Expressions.{AreOperationsOf, IsBlockIn, NamesSomething, MeanSameOperation}
use Rattle.same_meaning.proofs.Zipped.{zips_from, zips_count, zips_at}

-- the bytes that an operation keeps stand in its expression
lead_block : (bytes : List ℕ) (at size : ℕ) (op : Op) → IsLead bytes at size op → IsBlockIn bytes op
lead_block bytes at size op lead = elim lead.block [
  | inl (keeps, end) ↦ omega (arith, end, lead.inside)
  | inr (none, from, len) ↦ omega (arith, from, len)
]

chain_block : (bytes : List ℕ) (at end : ℕ) (ops : List Op) (k : ℕ) (d : Op) → Chain bytes at ops end → k < length ops → IsBlockIn bytes (get_or ops k d)
chain_block bytes at end [] k d chain inside = absurd (omega (arith, inside))
chain_block bytes at end (op ∷ ops) zero d (here, (size, lead, rest)) inside = lead_block bytes at size op lead
chain_block bytes at end (op ∷ ops) (suc k) d (here, (size, lead, rest)) inside = chain_block bytes (at + size) end ops k d rest (omega (arith, inside))

pub op_block : (bytes : List ℕ) (ops : List Op) (k : ℕ) → AreOperationsOf bytes ops → k < length ops → IsBlockIn bytes (op_at ops k)
op_block bytes ops k are inside = chain_block bytes 0 (length bytes) ops k (op_at [] 0) are.places inside

-- each names what it may
zip_named : (r : Linkable) (u : ℕ) (bytes : List ℕ) (ops : List Op) (linked : List LinkedOperation) (k : ℕ) (d : Op) → AllZip (LinksOperation r u) (all_meant bytes ops) linked → k < length ops → NamesSomething r u (get_or ops k d)
zip_named r u bytes [] linked k d zip inside = absurd (omega (arith, inside))
zip_named r u bytes (op ∷ ops) [] k d zip inside = absurd zip
zip_named r u bytes (op ∷ ops) (l ∷ ls) zero d zip inside = (l.target, zip.0.target)
zip_named r u bytes (op ∷ ops) (l ∷ ls) (suc k) d zip inside = zip_named r u bytes ops ls k d zip.1 (omega (arith, inside))

pub op_named : (r : Linkable) (u : ℕ) (bytes : List ℕ) (ops : List Op) (k : ℕ) → AreAllLinked r u bytes ops → k < length ops → NamesSomething r u (op_at ops k)
op_named r u bytes ops k (linked, zip) inside = zip_named r u bytes ops linked k (op_at [] 0) zip inside

-- all mean the same where each does
module _ (r : Linkable) (u : ℕ) (bytes : List ℕ) (ops : List Op) (s : Linkable) (v : ℕ) (others : List ℕ) (news : List Op) where
  pub ops_same : length ops ≡ length news → ((k : ℕ) → k < length ops → MeanSameOperation r u bytes (op_at ops k) s v others (op_at news k)) → MeanOne (AreLinkedTo r u bytes ops) (AreLinkedTo s v others news)
  ops_same count each = zips_from (LinksOperation r u) (LinksOperation s v) (meant bytes) (meant others) ops news (op_at [] 0) (op_at [] 0) count each

  pub count_same : MeanOne (AreLinkedTo r u bytes ops) (AreLinkedTo s v others news) → length ops ≡ length news
  count_same same = zips_count (LinksOperation r u) (LinksOperation s v) (meant bytes) (meant others) ops news same

  pub op_same : MeanOne (AreLinkedTo r u bytes ops) (AreLinkedTo s v others news) → (k : ℕ) → k < length ops → MeanSameOperation r u bytes (op_at ops k) s v others (op_at news k)
  op_same same k inside = zips_at (LinksOperation r u) (LinksOperation s v) (meant bytes) (meant others) ops news (op_at [] 0) (op_at [] 0) same k inside
