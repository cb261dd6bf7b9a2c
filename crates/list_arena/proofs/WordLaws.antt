-- Words stay what they are where more numbers are held whole.
use Rattle.std.proofs.Common.{◌≡◌, ◌≤◌, ◌<◌, ◌+◌, ◌-◌, ℕ, List, [], ◌∷◌, ◌++◌, ◌∙◌, length, get_or, arith}
use Rattle.std.proofs.lemmas.Bool.Decides.{nat_tests}
use Rattle.std.proofs.lemmas.List.{length_push, get_or_append_left, get_or_push}
use Rattle.list_arena.specs.inside.Words.{first_long, word_held, IsWord, GrowsTo}

-- a word below 2^31 is its own number
pub word_short : (long : List ℕ) (word : ℕ) → word < first_long → word_held long word ≡ word
unfolding word_held
word_short long word short = grind (arith, nat_tests)

-- another names one of those that are held whole
pub word_long : (long : List ℕ) (word : ℕ) → first_long ≤ word → word_held long word ≡ get_or long (word - first_long) 0
unfolding word_held
word_long long word far = grind (arith, nat_tests)

pub grows_on : (a b c : List ℕ) → GrowsTo a b → GrowsTo b c → GrowsTo a c
grows_on a b c first second = record {
  words = λ word is. second.words word (first.words word is);
  same = λ word is. second.same word (first.words word is) ∙ first.same word is;
}

pushed_same : (long : List ℕ) (number word : ℕ) → IsWord long word → word_held (long ++ number ∷ []) word ≡ word_held long word
unfolding word_held
pushed_same long number word is = grind (arith, nat_tests, get_or_append_left)

-- one more number that is held whole
pub grows_push : (long : List ℕ) (number : ℕ) → GrowsTo long (long ++ number ∷ [])
grows_push long number = record {
  words = λ word is. omega (arith, length_push long number);
  same = λ word is. pushed_same long number word is;
}

-- the word that names it
pub pushed_word : (long : List ℕ) (number word : ℕ) → word ≡ first_long + length long → IsWord (long ++ number ∷ []) word × (word_held (long ++ number ∷ []) word ≡ number)
pushed_word long number word is =
    let place : length long ≡ word - first_long = omega arith in
    (omega (arith, length_push long number), word_long (long ++ number ∷ []) word (omega arith) ∙ get_or_push long number 0 (word - first_long) place)

-- a word stays one of its number
pub held_on : (a b : List ℕ) (word number : ℕ) → GrowsTo a b → IsWord a word × (word_held a word ≡ number) → IsWord b word × (word_held b word ≡ number)
held_on a b word number grown (is, held) = (grown.words word is, grown.same word is ∙ held)
