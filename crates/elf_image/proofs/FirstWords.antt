-- An image's first words as a list: one word more, how many there are, and that there is one.
use Rattle.std.proofs.Common.{◌≡◌, ℕ, ◌+◌, ◌<◌, [], ◌∷◌, ◌++◌, length, map, arith}
use Rattle.std.specs.List.{range_with_len}
use Rattle.std.proofs.lemmas.List.FromFn.{length-map-range_with_len, map-range_with_len_more}
use Rattle.elf_image.specs.Layout.{Layout, first_word, first_words, words_of, count_below, is_mapped, all_pages}

pub map_more : (f : ℕ → ℕ) (n : ℕ) → map f (range_with_len 0 (n + 1)) ≡ map f (range_with_len 0 n) ++ f n ∷ []
map_more f n = map-range_with_len_more f 0 n n (omega arith)

pub first_words_count : (image : Layout) → length (first_words image) ≡ words_of image
first_words_count image = length-map-range_with_len (first_word image) 0 (words_of image)

pub some_word : (image : Layout) → 0 < words_of image
unfolding words_of
some_word image = let pages : ℕ = count_below (is_mapped image) all_pages in omega arith
