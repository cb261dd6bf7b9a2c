-- What a file with new bodies has in common with the one before.
use Rattle.std.proofs.Common.{◌≡◌, ◌≢◌, ◌<◌, ◌∙◌, ℕ, List, map, refl, inl, inr}
use Rattle.std.specs.Prelude.{IsFalse}
use Rattle.std.specs.List.{All}
use Rattle.std.proofs.lemmas.Bool.{cases_Bool}
use Rattle.dw_base.specs.declared.fault.Reach.TheVariants.{Wide}
use Rattle.elf_sections.specs.Elf.{section_count, fixed_end_of, names_index, is_movable, body_of}
use Rattle.elf_sections.specs.Faults.{IsRead}
use Rattle.elf_place.specs.declared.bodies.NewBody.{NewBody}
use Rattle.elf_place.specs.declared.spots.Spot.{Spot}
use Rattle.elf_place.specs.Bodies.{AreApart, IsReplaceable, KeepsNames, body_after, has_new_body}
use Rattle.elf_place.specs.Layout.{IsMovingOrder, IsLaidOut}
use Rattle.elf_place.specs.Same.{SameImage}
use Rattle.elf_place.specs.inside.Spots.{IsChain, IsWritten}
use Rattle.elf_place.proofs.BodyLaws.{body_after-Some, body_after-kept}
use Rattle.elf_place.proofs.WriteLaws.{laid_out, keeps_loaded, keeps_headers, name_of-kept, moving-body, fixed-body, is_movable-kept}
use Rattle.elf_place.proofs.Kept.{fixed_end_of-kept}

pub record IsPlaced (file : List ℕ) (bodies : List NewBody) (new : List ℕ) : Type 0 where
  pub laid_out : IsLaidOut file (body_after file bodies) new
  pub same : KeepsNames file bodies → SameImage (has_new_body bodies) file new
  pub news : All (λ (body : NewBody). body_of new body.section ≡ body.bytes.items) bodies
  pub kept : (i : ℕ) → i < section_count file → IsFalse (has_new_body bodies i) → body_of new i ≡ body_of file i
  pub fixed_end : fixed_end_of new ≡ fixed_end_of file
  pub movable : (i : ℕ) → i < section_count file → is_movable new i ≡ is_movable file i

pub IsPlaced-from : (file : List ℕ) (bodies : List NewBody) (spots : List Spot) (end : ℕ) (new : List ℕ) → IsRead file Wide → section_count file ≢ 0 → All (λ (body : NewBody). IsReplaceable file body.section) bodies → AreApart bodies → IsChain file (body_after file bodies) (fixed_end_of file) spots end → IsMovingOrder file (map (λ (spot : Spot). spot.section) spots) → IsWritten file (body_after file bodies) spots end new → IsPlaced file bodies new
IsPlaced-from file bodies spots end new read some replaceable apart chain moving written =
    let bytes = body_after file bodies in
    let kept : (i : ℕ) → i < section_count file → IsFalse (has_new_body bodies i) → body_of new i ≡ body_of file i = λ i lt old. elim (cases_Bool (is_movable file i)) [
      | inl moves ↦ moving-body file bytes spots end new read some chain written moving i lt moves ∙ body_after-kept file bodies i old
      | inr stays ↦ fixed-body file bytes spots end new read some chain written moving i lt stays
    ] in
    record {
      laid_out = laid_out file bytes spots end new read some chain written moving;
      same = λ keeps. record {
        loaded = keeps_loaded file bytes spots end new read some chain written moving;
        headers = keeps_headers file bytes spots end new read some chain written moving;
        names = name_of-kept file bytes spots end new read some chain written moving (λ named. kept (names_index file) (read.whole.section_table.names named) (keeps named));
        bodies = kept;
      };
      news = λ k d lt. let may = replaceable k d lt in moving-body file bytes spots end new read some chain written moving _ may.inside may.moves ∙ body_after-Some file bodies _ k d apart lt refl;
      kept = kept;
      fixed_end = fixed_end_of-kept file new read some (keeps_loaded file bytes spots end new read some chain written moving) (keeps_headers file bytes spots end new read some chain written moving);
      movable = is_movable-kept file bytes spots end new read some chain written moving;
    }
