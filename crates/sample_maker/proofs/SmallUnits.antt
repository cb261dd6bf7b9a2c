-- The functions of small units.
use Rattle.std.proofs.Common.{◌≡◌, ◌≤◌, ◌<◌, ℕ, List, [], ◌∷◌, length, get_or, map, sym, subst, arith}
use Rattle.std.proofs.lemmas.List.{get_or-map, length-map}
use Rattle.sample_maker.specs.declared.drawn.Function.{Function}
use Rattle.sample_maker.specs.Drawn.{FunctionDrawn, function_of}
use Rattle.sample_maker.specs.inside.Small.{IsFunctionSmall, IsUnitSmall}
use Rattle.sample_maker.specs.inside.Files.{block_size, function_size}

pub function_at : (fs : List Function) (i : ℕ) (d : Function) → IsUnitSmall (map function_of fs) → i < length fs → IsFunctionSmall (function_of (get_or fs i d))
function_at fs i d small inside =
    let lt : i < length (map function_of fs) = omega (arith, inside, length-map fs function_of) in
    subst IsFunctionSmall (get_or-map function_of fs i d (function_of d) inside) (small.functions i (function_of d) lt)

pub function_number : (fs : List Function) (i : ℕ) → IsUnitSmall (map function_of fs) → i < length fs → i < 8
function_number fs i small inside = omega (arith, inside, length-map fs function_of, small.few)

pub item_small : (fs : List Function) (i : ℕ) (f : Function) → IsUnitSmall (map function_of fs) → i < length fs → f ≡ get_or fs i f → IsFunctionSmall (function_of f)
item_small fs i f small inside is = subst (λ (z : Function). IsFunctionSmall (function_of z)) (sym is) (function_at fs i f small inside)

block_small : (sizes : List ℕ) → block_size sizes ≤ 5
block_small [] = omega arith
block_small (size ∷ sizes) = omega arith

pub function_size_small : (f : FunctionDrawn) → IsFunctionSmall f → function_size f ≤ 100
function_size_small f small = omega (arith, small.few_parameters, block_small f.ranges)
