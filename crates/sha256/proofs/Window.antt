-- The last sixteen words of a growing schedule are all that it grows by.
use Rattle.std.proofs.Common.{◌≡◌, ℕ, zero, suc, ◌+◌, ◌-◌, ◌*◌, ◌≤◌, List, [], ◌∷◌, ◌++◌, length, get_or, take, drop, sym, refl, ap, ◌∙◌, add-zero, zero-add, arith}
use Rattle.std.proofs.lemmas.List.{append_assoc, length-append, length-drop, length_push, length-take-le, get_or-append-add, take-append-drop, take-take, take_at, take_all, drop_at, drop-drop, drop-take}
use Rattle.sha256.specs.Sha256.{first_word, words, schedule_word, extended, schedule}

length-words : (n : ℕ) (m : List ℕ) → length (words n m) ≡ n
unfolding words
length-words zero m = refl
length-words (suc n) m = ap suc (length-words n (drop 4 m))

words_add : (a b : ℕ) (m : List ℕ) → words (a + b) m ≡ words a m ++ words b (drop (4 * a) m)
unfolding words
words_add zero b m = rw zero-add
words_add (suc a) b m =
    let more : suc a + b ≡ suc (a + b) = omega arith in
    let on : 4 + 4 * a ≡ 4 * suc a = omega arith in
    rw more (ap (λ ws. first_word m ∷ ws) (words_add a b (drop 4 m) ∙ rw (drop-drop (4 * a) 4 m, on)))

pub words_parts : (m : List ℕ) → words 4 m ++ (words 4 (drop 16 m) ++ (words 4 (drop 32 m) ++ words 4 (drop 48 m))) ≡ words 16 m
words_parts m =
    cc (
      words_add 4 12 m,
      words_add 4 8 (drop 16 m),
      words_add 4 4 (drop 32 m),
      drop-drop 16 16 m,
      drop-drop 16 32 m,
    )

length-extended : (n : ℕ) (w : List ℕ) → length (extended n w) ≡ length w + n
unfolding extended
length-extended zero w = sym (add-zero (length w))
length-extended (suc n) w =
    let next = schedule_word w (length w) in
    omega (arith, length-extended n (w ++ (next ∷ [])), length_push w next)

pub length-schedule : (block : List ℕ) → length (schedule block) ≡ 64
unfolding schedule
length-schedule block = omega (arith, length-extended 48 (words 16 block), length-words 16 block)

extended_add : (m n : ℕ) (w : List ℕ) → extended (m + n) w ≡ extended n (extended m w)
unfolding extended
extended_add zero n w = rw zero-add
extended_add (suc m) n w =
    let more : suc m + n ≡ suc (m + n) = omega arith in
    rw more (extended_add m n (w ++ (schedule_word w (length w) ∷ [])))

-- What stands keeps standing.
take-extended : (n : ℕ) (w : List ℕ) → take (length w) (extended n w) ≡ w
unfolding extended
take-extended zero w = take_all (length w) w (omega arith)
take-extended (suc n) w =
    let next = schedule_word w (length w) in
    let longer = w ++ (next ∷ []) in
    let le : length w ≤ length longer = omega (arith, length_push w next) in
    cc (
      take-take (length w) (length longer) (extended n longer) le,
      take-extended n longer,
      take_at w (next ∷ []) (length w) refl,
    )

take_longer : (m n : ℕ) (w : List ℕ) → take (length w + m) (extended (m + n) w) ≡ extended m w
take_longer m n w = cc (take-extended n (extended m w), extended_add m n w, length-extended m w)

-- Words further back than sixteen do not matter.
word_behind : (p w : List ℕ) → 16 ≤ length w → schedule_word (p ++ w) (length (p ++ w)) ≡ schedule_word w (length w)
unfolding schedule_word
word_behind p w le = cc (at 2 (omega arith), at 7 (omega arith), at 15 (omega arith), at 16 (omega arith))
  where
    at : (j : ℕ) → j ≤ 16 → get_or (p ++ w) (length (p ++ w) - j) 0 ≡ get_or w (length w - j) 0
    at j h =
        let place : length (p ++ w) - j ≡ length p + (length w - j) = omega (arith, length-append p w) in
        rw place (get_or-append-add p w (length w - j) 0)

extended-behind : (n : ℕ) (p w : List ℕ) → 16 ≤ length w → extended n (p ++ w) ≡ p ++ extended n w
unfolding extended
extended-behind zero p w le = refl
extended-behind (suc n) p w le =
    let next = schedule_word w (length w) in
    let long : 16 ≤ length (w ++ (next ∷ [])) = omega (arith, length_push w next) in
    rw (word_behind p w le, append_assoc p w (next ∷ [])) (extended-behind n p (w ++ (next ∷ [])) long)

-- Sixteen words, and the next four: the window moves on.
module _ (start window next : List ℕ) (n : ℕ) where
  moved : length start ≡ 16 → window ≡ drop n (extended n start) → next ≡ drop 16 (extended 4 window) → drop (n + 4) (extended (n + 4) start) ≡ drop 4 (window ++ next)
  moved sixteen is grown =
      let whole = extended n start in
      let n_in : n ≤ length whole = omega (arith, length-extended n start) in
      let long : length window ≡ 16 = ap length is ∙ (length-drop n whole ∙ omega (arith, length-extended n start)) in
      let split : take n whole ++ window ≡ whole = rw is (take-append-drop n whole) in
      let front : length (take n whole) ≡ n = length-take-le n whole n_in in
      let behind = extended-behind 4 (take n whole) window (omega arith) in
      let stands : take 16 (extended 4 window) ≡ window = rw long at (take-extended 4 window) in
      cc (
        extended_add n 4 start,
        drop-drop 4 n (take n whole ++ extended 4 window),
        drop_at (take n whole) (extended 4 window) n front,
        take-append-drop 16 (extended 4 window),
      )

pub window_moves : (block a b c d next : List ℕ) (n : ℕ) → length a ≡ 4 → a ++ (b ++ (c ++ d)) ≡ drop n (extended n (words 16 block)) → next ≡ drop 16 (extended 4 (a ++ (b ++ (c ++ d)))) → b ++ (c ++ (d ++ next)) ≡ drop (n + 4) (extended (n + 4) (words 16 block))
window_moves block a b c d next n four is grown =
    let regroup : (a ++ (b ++ (c ++ d))) ++ next ≡ a ++ (b ++ (c ++ (d ++ next))) = simp append_assoc in
    let rest = drop_at a (b ++ (c ++ (d ++ next))) 4 four in
    cc (moved (words 16 block) (a ++ (b ++ (c ++ d))) next n (length-words 16 block) is grown)

part : (xs : List ℕ) (n m : ℕ) → n + 4 ≤ m → take 4 (drop n (take m xs)) ≡ take 4 (drop n xs)
part xs n m le =
    let whole : n + (m - n) ≡ m = omega arith in
    let long : 4 ≤ m - n = omega arith in
    cc (drop-take n (m - n) xs, take-take 4 (m - n) (drop n xs) long)

-- The first four words of the window are the schedule's.
pub window_words : (block a rest : List ℕ) (n : ℕ) → length a ≡ 4 → n + 4 ≤ 64 → a ++ rest ≡ drop n (extended n (words 16 block)) → take 4 (drop n (schedule block)) ≡ a
unfolding schedule
window_words block a rest n four le is =
    let start = words 16 block in
    let most = extended 64 start in
    let sixteen = length-words 16 block in
    let schedule_of : take 64 most ≡ extended 48 start = rw sixteen at (take_longer 48 16 start) in
    let all : n + (64 - n) ≡ 64 = omega arith in
    let whole_of : take (16 + n) most ≡ extended n start = rw (sixteen, all) at (take_longer n (64 - n) start) in
    cc (part most n 64 le, part most n (16 + n) (omega arith), take_at a rest 4 four)
