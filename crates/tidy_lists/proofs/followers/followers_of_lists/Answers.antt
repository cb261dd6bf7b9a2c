use Rattle.std.proofs.Common.{◌⊎◌, ℕ, List, [], subst}
use Rattle.tidy_lists.specs.declared.followers.Follower.{Follower}
use Rattle.tidy_lists.specs.declared.followers.named.Sought.TheVariants.{Lists}
use Rattle.tidy_lists.specs.Followers.{Follows}
use Rattle.tidy_lists.specs.inside.NamedNumbers.{Adds, ArePairedByValues, ArePairedBySlots}
use Rattle.tidy_lists.proofs.AddedPairs.{adds_both, adds_same, adds_all}
use Rattle.tidy_lists.proofs.Followed.{lists_paired, list_follows, meant_by_both}
use Rattle.tidy_lists.proofs.followers.followers_of_lists.Goals as goal

pub returns : goal.returns
returns c = λ r s read holds also held.
    let kind = c.args.kind in
    let file = c.args.before.now.image in
    let written = c.args.after.now.image in
    let ByValue : ℕ → ℕ → Type 0 = ArePairedByValues (Lists kind) r s in
    let BySlot : ℕ → ℕ → Type 0 = ArePairedBySlots kind r s in
    let values = c.push_by_values.new.pairs.items in
    let all = c.push_by_slots.new.pairs.items in
    let one : Adds ByValue [] values = subst (λ (z : List Follower). Adds ByValue z values) c.new-pairs.ensures.items (c.in_ok-push_by_values.ensures r s read holds also held) in
    let two : Adds BySlot values all = c.in_ok-push_by_slots.ensures r s read holds also held in
    let both = adds_both ByValue BySlot [] values all one two in
    let m = meant_by_both file written r s c.requires.same read also in
    record {
      those = adds_all (Follows kind r s) all (adds_same (λ (k n : ℕ). ByValue k n ⊎ BySlot k n) (Follows kind r s) [] all (lists_paired file r s read kind) both);
      each = list_follows file written r s read also m.debug m.first m.second kind;
    }
