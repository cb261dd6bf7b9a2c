-- The numbers of pairs from their runs.
use Rattle.std.proofs.Common.{◌≡◌, ◌<◌, ◌+◌, ◌-◌, ◌++◌, ◌∙◌, ℕ, List, [], ◌∷◌, take, get_or, length, sym, ap, refl, arith}
use Rattle.std.specs.Prelude.{replicate}
use Rattle.std.proofs.lemmas.List.{append_assoc, append-nil, length-append, length-replicate, take_more, take_all}
use Rattle.dw_base.specs.declared.record.Run.{Run}
use Rattle.leb_codec.specs.Records.{pairs_of}
use Rattle.line_sums.specs.Accepted.{numbers_of}

spread_push : (runs : List Run) (run : Run) → numbers_of (runs ++ run ∷ []) ≡ numbers_of runs ++ replicate run.len run.number
spread_push [] run = append-nil (replicate run.len run.number)
spread_push (r ∷ runs) run = ap (λ (z : List ℕ). replicate r.len r.number ++ z) (spread_push runs run) ∙ sym (append_assoc (replicate r.len r.number) (numbers_of runs) (replicate run.len run.number))

-- as many more elements, of one value
pub resized : (old new : List ℕ) (len had more n : ℕ) → len ≡ had → had ≡ length old → new ≡ take (len + more) old ++ replicate (len + more - had) n → new ≡ old ++ replicate more n
resized old new len had more n is all e =
    let size : len + more - had ≡ more = omega arith in
    e ∙ ap (λ (z : List ℕ). z ++ replicate (len + more - had) n) (take_all (len + more) old (omega (arith, is, all))) ∙ ap (λ (z : ℕ). old ++ replicate z n) size

-- a run more
pub spread_more : (runs : List Run) (i : ℕ) (d : Run) (old new : List ℕ) → i < length runs → old ≡ numbers_of (take i runs) → new ≡ old ++ replicate (get_or runs i d).len (get_or runs i d).number → new ≡ numbers_of (take (i + 1) runs)
spread_more runs i d old new lt e f =
    f ∙ ap (λ (z : List ℕ). z ++ replicate (get_or runs i d).len (get_or runs i d).number) e ∙ sym (spread_push (take i runs) (get_or runs i d)) ∙ ap numbers_of (sym (take_more runs i d lt))

-- there is a number for each pair
pub spread_size : (runs : List Run) → length (numbers_of runs) ≡ pairs_of runs
spread_size [] = refl
spread_size (run ∷ runs) =
    omega (arith, spread_size runs, length-append (replicate run.len run.number) (numbers_of runs), length-replicate run.len run.number)
