-- Entries in preorder and trees have the same bytes.
use Rattle.std.proofs.Common.{◌≡◌, ◌≤◌, ◌<◌, ◌+◌, ◌-◌, ℕ, zero, suc, List, [], ◌∷◌, ◌++◌, ◌∙◌, sym, ap, refl, subst, arith}
use Rattle.std.specs.Prelude.{◌↔◌, Bool, true, false, map, if◌then◌else◌}
use Rattle.std.proofs.lemmas.List.{append-nil, append_assoc, map-append}
use Rattle.leb_codec.specs.Leb.{Uleb}
use Rattle.form_codec.specs.Forms.{Meaning}
use Rattle.abbrev_tables.specs.Tables.{Declared}
use Rattle.entry_arena.specs.Trees.{declared_at}
use Rattle.entry_arena.specs.Forests.{Described}
use Rattle.entry_arena.specs.Runs.{chains_of, AreNested, AreBelow}
use Rattle.entry_arena.specs.Spellings.{Subtrees, SpellsEntry, SpellsChildren, SpellsSubtrees, SpellsForest, in_preorder}
use Rattle.entry_arena.specs.Spellings.Subtrees.{NoSubtree, Subtree}
use Rattle.entry_arena.specs.Preorders.{Node, outline, said_by, SpellsZeros, SpellsNodes, SpellsPreorder}
use Rattle.entry_arena.proofs.RunLaws.{nested_more}

-- the entries of subtrees at a depth
nodes_of : ℕ → Subtrees → List Node
nodes_of depth NoSubtree = []
nodes_of depth (Subtree number values children more) = (record { depth = depth; number = number; values = values }) ∷ (nodes_of (suc depth) children ++ nodes_of depth more)

module _ (ds : List Declared) where
  said : (trees : Subtrees) (depth : ℕ) → in_preorder ds depth trees ≡ map (said_by ds) (nodes_of depth trees)
  unfolding nodes_of
  said NoSubtree depth = refl
  said (Subtree number values children more) depth =
      let n : Node = record { depth = depth; number = number; values = values } in
      ap (λ (z : List Described). said_by ds n ∷ (z ++ in_preorder ds depth more)) (said children (suc depth)) ∙ ap (λ (z : List Described). said_by ds n ∷ (map (said_by ds) (nodes_of (suc depth) children) ++ z)) (said more depth) ∙ ap (λ (z : List Described). said_by ds n ∷ z) (sym (map-append (said_by ds) (nodes_of (suc depth) children) (nodes_of depth more)))

  -- entries that may stand where so many chains are open
  record Stand (level : ℕ) (nodes : List Node) (bytes : List ℕ) : Type 0 where
    nested : AreNested ds level (outline nodes)
    spelled : SpellsNodes ds level nodes bytes

  -- one chain more is one code 0 more in front
  zero_more : (level : ℕ) (nodes : List Node) (end bytes : List ℕ) → Uleb 0 end → Stand level nodes bytes → Stand (suc level) nodes (end ++ bytes)
  zero_more level [] end bytes zero_there s = record { nested = tt; spelled = (end, bytes, zero_there, s.spelled, refl) }
  zero_more level (n ∷ more) end bytes zero_there s =
      let fits : n.depth ≤ level = s.nested.0 in
      let one : suc (level - n.depth) ≡ suc level - n.depth = omega arith in
      let (ends, entry, rest, closed, here, later, whole) = s.spelled in
      let longer : SpellsZeros (suc (level - n.depth)) (end ++ ends) = (end, ends, zero_there, closed, refl) in
      record {
        nested = nested_more ds level (outline (n ∷ more)) s.nested;
        spelled = (end ++ ends, entry, rest, subst (λ (z : ℕ). SpellsZeros z (end ++ ends)) one longer, here, later, ap (λ z. end ++ z) whole ∙ sym (append_assoc end ends (entry ++ rest)));
      }

  -- an entry in an open chain, before what follows it
  entry_stands : (depth number : ℕ) (values : List Meaning) (more : List Node) (entry rest : List ℕ) → SpellsEntry ds number values entry → Stand (depth + chains_of ds number) more rest → Stand depth ((record { depth = depth; number = number; values = values }) ∷ more) (entry ++ rest)
  entry_stands depth number values more entry rest here s =
      let none : 0 ≡ depth - depth = omega arith in
      let self : depth ≤ depth = omega arith in
      record { nested = (self, s.nested); spelled = ([], entry, rest, subst (λ (z : ℕ). SpellsZeros z []) none refl, here, s.spelled, refl) }

  -- what follows an entry, before what follows that
  children_stand : (flag : Bool) (depth : ℕ) (children : Subtrees) (below : List ℕ) (more : List Node) (bytes : List ℕ) → ((a : List ℕ) (nodes : List Node) (b : List ℕ) → SpellsSubtrees ds children a → Stand (suc depth) nodes b → Stand (suc depth) (nodes_of (suc depth) children ++ nodes) (a ++ b)) → SpellsChildren flag children (SpellsSubtrees ds children) below → Stand depth more bytes → Stand (depth + (if flag then 1 else 0)) (nodes_of (suc depth) children ++ more) (below ++ bytes)
  unfolding nodes_of
  children_stand true depth children below more bytes stand (inside, end, spelled, zero_there, whole) s =
      let one : suc depth ≡ depth + 1 = omega arith in
      let f = stand inside more (end ++ bytes) spelled (zero_more depth more end bytes zero_there s) in
      let same : inside ++ (end ++ bytes) ≡ below ++ bytes = sym (append_assoc inside end bytes) ∙ ap (λ z. z ++ bytes) (sym whole) in
      subst (λ (z : ℕ). Stand z (nodes_of (suc depth) children ++ more) (below ++ bytes)) one (subst (λ (z : List ℕ). Stand (suc depth) (nodes_of (suc depth) children ++ more) z) same f)
  children_stand false depth children below more bytes stand (none, empty) s =
      let kept : depth ≡ depth + 0 = omega arith in
      subst (λ (z : ℕ). Stand z (nodes_of (suc depth) children ++ more) (below ++ bytes)) kept (subst (λ (z : Subtrees). Stand depth (nodes_of (suc depth) z ++ more) (below ++ bytes)) (sym none) (subst (λ (z : List ℕ). Stand depth more (z ++ bytes)) (sym empty) s))

  -- subtrees before what follows them in an open chain
  subtrees_stand : (trees : Subtrees) (depth : ℕ) (a : List ℕ) (more : List Node) (bytes : List ℕ) → SpellsSubtrees ds trees a → Stand depth more bytes → Stand depth (nodes_of depth trees ++ more) (a ++ bytes)
  unfolding nodes_of
  subtrees_stand NoSubtree depth a more bytes empty s = subst (λ (z : List ℕ). Stand depth more (z ++ bytes)) (sym empty) s
  subtrees_stand (Subtree number values children others) depth a more bytes (entry, below, later, here, under, rest, whole) s =
      let flag : Bool = (declared_at ds number).children in
      let l = subtrees_stand others depth later more bytes rest s in
      let c = children_stand flag depth children below (nodes_of depth others ++ more) (later ++ bytes) (λ b nodes d spelled t. subtrees_stand children (suc depth) b nodes d spelled t) under l in
      let e = entry_stands depth number values (nodes_of (suc depth) children ++ (nodes_of depth others ++ more)) entry (below ++ (later ++ bytes)) here c in
      let n : Node = record { depth = depth; number = number; values = values } in
      let nodes : n ∷ (nodes_of (suc depth) children ++ (nodes_of depth others ++ more)) ≡ n ∷ ((nodes_of (suc depth) children ++ nodes_of depth others) ++ more) = ap (λ z. n ∷ z) (sym (append_assoc (nodes_of (suc depth) children) (nodes_of depth others) more)) in
      let same : entry ++ (below ++ (later ++ bytes)) ≡ a ++ bytes = ap (λ z. entry ++ z) (sym (append_assoc below later bytes)) ∙ sym (append_assoc entry (below ++ later) bytes) ∙ ap (λ z. z ++ bytes) (sym whole) in
      subst (λ (z : List Node). Stand depth z (a ++ bytes)) nodes (subst (λ (z : List ℕ). Stand depth (n ∷ (nodes_of (suc depth) children ++ (nodes_of depth others ++ more))) z) same e)

  below_both : (xs ys : List Node) → AreBelow (outline xs) → AreBelow (outline ys) → AreBelow (outline (xs ++ ys))
  below_both [] ys p q = q
  below_both (x ∷ xs) ys (here, rest) q = (here, below_both xs ys rest q)

  nodes_below : (trees : Subtrees) (depth : ℕ) → AreBelow (outline (nodes_of (suc depth) trees))
  unfolding nodes_of
  nodes_below NoSubtree depth = tt
  nodes_below (Subtree number values children more) depth =
      let up : 0 < suc depth = omega arith in
      (up, below_both (nodes_of (suc (suc depth)) children) (nodes_of (suc depth) more) (nodes_below children (suc depth)) (nodes_below more depth))

  preorder_of : (entries : List Described) (bytes : List ℕ) → SpellsForest ds entries bytes → SpellsPreorder ds entries bytes
  unfolding nodes_of
  preorder_of entries bytes f =
      let tree : Subtrees = Subtree f.number f.values f.children NoSubtree in
      let below : List Node = nodes_of 1 f.children in
      let root : Node = record { depth = 0; number = f.number; values = f.values } in
      let s : Stand 0 (nodes_of 0 tree ++ []) (bytes ++ []) = subtrees_stand tree 0 bytes [] [] f.spelled (record { nested = tt; spelled = refl }) in
      let t : Stand 0 (nodes_of 0 tree) bytes = subst (λ (z : List Node). Stand 0 z bytes) (append-nil (nodes_of 0 tree)) (subst (λ (z : List ℕ). Stand 0 (nodes_of 0 tree ++ []) z) (append-nil bytes) s) in
      let same : nodes_of 0 tree ≡ root ∷ below = ap (λ z. root ∷ z) (append-nil below) in
      let u : Stand 0 (root ∷ below) bytes = subst (λ (z : List Node). Stand 0 z bytes) same t in
      record {
        root = root;
        below = below;
        nested = u.nested;
        deeper = nodes_below f.children 0;
        spelled = u.spelled;
        described = f.described ∙ said tree 0 ∙ ap (map (said_by ds)) same;
      }

  -- what is left to the end: for each open chain the later siblings and their code 0
  abbrev Left : ℕ → List Described → List ℕ → Type 0
  Left zero all bytes = (bytes ≡ []) × (all ≡ [])
  Left (suc level) all bytes = (trees : Subtrees) × (a : List ℕ) × (end : List ℕ) × (b : List ℕ) × (later : List Described) × SpellsSubtrees ds trees a × Uleb 0 end × Left level later b × (bytes ≡ a ++ (end ++ b)) × (all ≡ in_preorder ds (suc level) trees ++ later)

  left_zeros : (n base level : ℕ) (all : List Described) (ends bytes : List ℕ) → level ≡ base + n → SpellsZeros n ends → Left base all bytes → Left level all (ends ++ bytes)
  left_zeros zero base level all ends bytes same empty left =
      let e : base ≡ level = omega arith in
      subst (λ (z : ℕ). Left z all (ends ++ bytes)) e (subst (λ (z : List ℕ). Left base all (z ++ bytes)) (sym empty) left)
  left_zeros (suc n) base level all ends bytes same (first, rest, zero_there, more, whole) left =
      let e : suc (base + n) ≡ level = omega arith in
      let l : Left (base + n) all (rest ++ bytes) = left_zeros n base (base + n) all rest bytes refl more left in
      let here : Left (suc (base + n)) all (ends ++ bytes) = (NoSubtree, [], first, rest ++ bytes, all, refl, zero_there, l, ap (λ z. z ++ bytes) whole ∙ append_assoc first rest bytes, refl) in
      subst (λ (z : ℕ). Left z all (ends ++ bytes)) e here

  zeros_left : (level : ℕ) (ends : List ℕ) → SpellsZeros level ends → Left level [] ends
  zeros_left zero ends empty = (empty, refl)
  zeros_left (suc level) ends (first, rest, zero_there, more, whole) = (NoSubtree, [], first, rest, [], refl, zero_there, zeros_left level rest more, whole, refl)

  -- an entry with what follows it is one more sibling of its chain
  left_entry : (flag : Bool) (depth number : ℕ) (values : List Meaning) (all : List Described) (entry rest : List ℕ) → (declared_at ds number).children ≡ flag → SpellsEntry ds number values entry → Left (suc depth + (if flag then 1 else 0)) all rest → Left (suc depth) (said_by ds (record { depth = suc depth; number = number; values = values }) ∷ all) (entry ++ rest)
  left_entry true depth number values all entry rest is here left =
      let one : suc depth + 1 ≡ suc (suc depth) = omega arith in
      let (children, a, end, b, more, spelled, zero_there, (others, c, end2, d, later, spelled2, zero_there2, left2, whole2, all2), whole, all1) = subst (λ (z : ℕ). Left z all rest) one left in
      let under : SpellsChildren true children (SpellsSubtrees ds children) (a ++ end) = (a, end, spelled, zero_there, refl) in
      let n : Described = said_by ds (record { depth = suc depth; number = number; values = values }) in (
        Subtree number values children others,
        entry ++ ((a ++ end) ++ c),
        end2,
        d,
        later,
        (entry, a ++ end, c, here, subst (λ (z : Bool). SpellsChildren z children (SpellsSubtrees ds children) (a ++ end)) (sym is) under, spelled2, refl),
        zero_there2,
        left2,
        ap (λ z. entry ++ z) (whole ∙ ap (λ z. a ++ (end ++ z)) whole2 ∙ sym (append_assoc a end (c ++ (end2 ++ d))) ∙ sym (append_assoc (a ++ end) c (end2 ++ d))) ∙ sym (append_assoc entry ((a ++ end) ++ c) (end2 ++ d)),
        ap (λ z. n ∷ z) (all1 ∙ ap (λ z. in_preorder ds (suc (suc depth)) children ++ z) all2 ∙ sym (append_assoc (in_preorder ds (suc (suc depth)) children) (in_preorder ds (suc depth) others) later)),
      )
  left_entry false depth number values all entry rest is here left =
      let one : suc depth + 0 ≡ suc depth = omega arith in
      let (others, c, end2, d, later, spelled2, zero_there2, left2, whole2, all2) = subst (λ (z : ℕ). Left z all rest) one left in
      let under : SpellsChildren false NoSubtree (SpellsSubtrees ds NoSubtree) [] = (refl, refl) in
      let n : Described = said_by ds (record { depth = suc depth; number = number; values = values }) in (
        Subtree number values NoSubtree others,
        entry ++ c,
        end2,
        d,
        later,
        (entry, [], c, here, subst (λ (z : Bool). SpellsChildren z NoSubtree (SpellsSubtrees ds NoSubtree) []) (sym is) under, spelled2, refl),
        zero_there2,
        left2,
        ap (λ z. entry ++ z) whole2 ∙ sym (append_assoc entry c (end2 ++ d)),
        ap (λ z. n ∷ z) all2,
      )

  left_at : (depth number : ℕ) (values : List Meaning) (all : List Described) (entry rest : List ℕ) → 0 < depth → SpellsEntry ds number values entry → Left (depth + chains_of ds number) all rest → Left depth (said_by ds (record { depth = depth; number = number; values = values }) ∷ all) (entry ++ rest)
  left_at zero number values all entry rest up here left = absurd (omega arith)
  left_at (suc depth) number values all entry rest up here left = left_entry ((declared_at ds number).children) depth number values all entry rest refl here left

  left_of : (nodes : List Node) (level : ℕ) (bytes : List ℕ) → AreNested ds level (outline nodes) → AreBelow (outline nodes) → SpellsNodes ds level nodes bytes → Left level (map (said_by ds) nodes) bytes
  left_of [] level bytes nested deeper ends = zeros_left level bytes ends
  left_of (n ∷ more) level bytes (fits, nested) (up, deeper) (ends, entry, rest, closed, here, later, whole) =
      let others = left_of more (n.depth + chains_of ds n.number) rest nested deeper later in
      let inner = left_at n.depth n.number n.values (map (said_by ds) more) entry rest up here others in
      let sum : level ≡ n.depth + (level - n.depth) = omega arith in
      subst (λ (z : List ℕ). Left level (map (said_by ds) (n ∷ more)) z) (sym whole) (left_zeros (level - n.depth) n.depth level (map (said_by ds) (n ∷ more)) ends (entry ++ rest) sum closed inner)

  root_tree : (flag : Bool) (number : ℕ) (values : List Meaning) (all entries : List Described) (entry rest bytes : List ℕ) → (declared_at ds number).children ≡ flag → SpellsEntry ds number values entry → Left (0 + (if flag then 1 else 0)) all rest → bytes ≡ entry ++ rest → entries ≡ said_by ds (record { depth = 0; number = number; values = values }) ∷ all → SpellsForest ds entries bytes
  root_tree true number values all entries entry rest bytes is here left whole described =
      let one : 0 + 1 ≡ suc zero = omega arith in
      let (children, a, end, b, more, spelled, zero_there, (none, last), whole1, all1) = subst (λ (z : ℕ). Left z all rest) one left in
      let under : SpellsChildren true children (SpellsSubtrees ds children) (a ++ end) = (a, end, spelled, zero_there, refl) in
      let n : Described = said_by ds (record { depth = 0; number = number; values = values }) in
      record {
        number = number;
        values = values;
        children = children;
        spelled = (entry, a ++ end, [], here, subst (λ (z : Bool). SpellsChildren z children (SpellsSubtrees ds children) (a ++ end)) (sym is) under, refl, whole ∙ ap (λ z. entry ++ z) (whole1 ∙ ap (λ z. a ++ (end ++ z)) none ∙ sym (append_assoc a end [])));
        described = described ∙ ap (λ z. n ∷ z) (all1 ∙ ap (λ z. in_preorder ds 1 children ++ z) last);
      }
  root_tree false number values all entries entry rest bytes is here left whole described =
      let one : 0 + 0 ≡ zero = omega arith in
      let (none, last) = subst (λ (z : ℕ). Left z all rest) one left in
      let under : SpellsChildren false NoSubtree (SpellsSubtrees ds NoSubtree) [] = (refl, refl) in
      let n : Described = said_by ds (record { depth = 0; number = number; values = values }) in
      record {
        number = number;
        values = values;
        children = NoSubtree;
        spelled = (entry, [], [], here, subst (λ (z : Bool). SpellsChildren z NoSubtree (SpellsSubtrees ds NoSubtree) []) (sym is) under, refl, whole ∙ ap (λ z. entry ++ z) none);
        described = described ∙ ap (λ z. n ∷ z) last;
      }

  forest_from : (depth : ℕ) (number : ℕ) (values : List Meaning) (below : List Node) (entries : List Described) (bytes : List ℕ) → depth ≡ 0 → AreNested ds (depth + chains_of ds number) (outline below) → AreBelow (outline below) → SpellsNodes ds 0 ((record { depth = depth; number = number; values = values }) ∷ below) bytes → entries ≡ map (said_by ds) ((record { depth = depth; number = number; values = values }) ∷ below) → SpellsForest ds entries bytes
  forest_from zero number values below entries bytes same nested deeper (ends, entry, rest, closed, here, later, whole) described =
      let none : 0 - 0 ≡ zero = omega arith in
      let empty : ends ≡ [] = subst (λ (z : ℕ). SpellsZeros z ends) none closed in
      let left = left_of below (0 + chains_of ds number) rest nested deeper later in
      root_tree ((declared_at ds number).children) number values (map (said_by ds) below) entries entry rest bytes refl here left (whole ∙ ap (λ z. z ++ (entry ++ rest)) empty) described
  forest_from (suc depth) number values below entries bytes same nested deeper spelled described = absurd (omega arith)

  forest_in : (entries : List Described) (bytes : List ℕ) → SpellsPreorder ds entries bytes → SpellsForest ds entries bytes
  forest_in entries bytes p =
      let fits : p.root.depth ≤ 0 = p.nested.0 in
      let root : p.root.depth ≡ 0 = omega arith in
      forest_from p.root.depth p.root.number p.root.values p.below entries bytes root p.nested.1 p.deeper p.spelled p.described

  pub preorders_are_forests : (entries : List Described) (bytes : List ℕ) → SpellsPreorder ds entries bytes ↔ SpellsForest ds entries bytes
  preorders_are_forests entries bytes = (forest_in entries bytes, preorder_of entries bytes)
