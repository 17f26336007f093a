-- One word more of a command's words.
use Rattle.std.proofs.Common.{◌≡◌, ℕ, suc, ◌+◌, ◌<◌, List, map, drop, get_or, length, Ok, Err, Bor, add-one, drop-cons, ap}
use Rattle.inf_command.specs.{Words.TakenWords, Words.and_then, Words.read_from, Words.take_word, declared.command_line.WordFault.WordFault}

-- reading goes on with the words behind one that was taken
pub read_from-taken : (words : List (Bor (List ℕ))) (i : ℕ) (d : Bor (List ℕ)) (taken next : TakenWords) → i < length words
    → take_word taken i (get_or words i d).now ≡ Ok next
    → read_from taken i (map (λ w. w.now) (drop i words)) ≡ read_from next (i + 1) (map (λ w. w.now) (drop (i + 1) words))
read_from-taken words i d taken next lt took =
    rw (drop-cons words i d, add-one) (ap (and_then (λ n. read_from n (suc i) (map (λ w. w.now) (drop (suc i) words)))) took)

-- a word that was refused ends the reading
pub read_from-refused : (words : List (Bor (List ℕ))) (i : ℕ) (d : Bor (List ℕ)) (taken : TakenWords) (refused : WordFault) →
    i < length words → take_word taken i (get_or words i d).now ≡ Err refused
    → read_from taken i (map (λ w. w.now) (drop i words)) ≡ Err refused
read_from-refused words i d taken refused lt took =
    rw (drop-cons words i d) (ap (and_then (λ n. read_from n (i + 1) (map (λ w. w.now) (drop (suc i) words)))) took)
