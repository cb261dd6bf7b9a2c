use Rattle.std.proofs.Common.{ℕ, List, [], subst}
use Rattle.tidy_lists.specs.declared.followers.Follower.{Follower}
use Rattle.tidy_lists.specs.declared.followers.named.Sought.TheVariants.{Runs}
use Rattle.tidy_lists.specs.Followers.{RunFollows}
use Rattle.tidy_lists.specs.inside.NamedNumbers.{Adds, ArePairedByValues}
use Rattle.tidy_lists.proofs.AddedPairs.{adds_same, adds_all}
use Rattle.tidy_lists.proofs.Followed.{runs_paired, run_follows, meant_by_both}
use Rattle.tidy_lists.proofs.followers.followers_of_runs.Goals as goal

pub returns : goal.returns
returns c = λ r s read holds also held.
    let file = c.args.before.now.image in
    let written = c.args.after.now.image in
    let ByValue : ℕ → ℕ → Type 0 = ArePairedByValues Runs r s in
    let values = c.push_by_values.new.pairs.items in
    let one : Adds ByValue [] values = subst (λ (z : List Follower). Adds ByValue z values) c.new-pairs.ensures.items (c.in_ok-push_by_values.ensures r s read holds also held) in
    let m = meant_by_both file written r s c.requires.same read also in
    record {
      those = adds_all (RunFollows r s) values (adds_same ByValue (RunFollows r s) [] values (runs_paired file r s read) one);
      each = run_follows file written r s read also m.debug m.first m.second;
    }
