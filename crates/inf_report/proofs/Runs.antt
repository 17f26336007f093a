-- Text that is shown run by run.
use Rattle.std.proofs.Common.{◌≡◌, ℕ, suc, ◌+◌, ◌≤◌, ◌++◌, Bool, true, false, not, cond, List, [], ◌∷◌, append_assoc, append-nil, take}
use Rattle.std.proofs.Common.{drop, Option, Result, IsErr, refl, sym, ap, ◌∙◌, arith}
use Rattle.std.specs.List.{prefix_len}
use Rattle.inf_characters.specs.{Characters.is_white, declared.characters.CharSet.CharSet}
use Rattle.inf_devices.specs.{Files.Rose, Sinks.Takes}
use Rattle.inf_report.proofs.Writings.{both_whole, failed, goes_on, with_more}
use Rattle.inf_report.specs.{Writing.TakesPart, Writing.Writes, declared.pieces.ReportFault.ReportFault}
use Rattle.inf_report.specs.OwnWords.{is_alike, shown_behind, shown_run, spaced}

-- All so far was shown of a text, with no failure, and the rest is left.
pub record Shows (old new : Option (List ℕ)) (before after : ℕ) (set : CharSet) (whole rest : List ℕ) : Type 0 where
  pub done : List ℕ
  pub takes : Takes old new done
  pub is_cut : shown_behind set [] whole ≡ done ++ shown_behind set [] rest
  pub quiet : after ≡ before

one_more : (n : ℕ) → 1 + n ≡ suc n
one_more n = omega arith

-- white space is shown with the white space before it
spaces_shown : (set : CharSet) (run bytes : List ℕ) → shown_behind set run bytes ≡ spaced
    (run ++ take (prefix_len (is_white set) bytes) bytes) ++ shown_behind set [] (drop (prefix_len (is_white set) bytes) bytes)
spaces_shown set run [] = ap spaced (sym (append-nil run)) ∙ sym (append-nil (spaced (run ++ [])))
spaces_shown set run (b ∷ bs) = go (is_white set b) refl (spaces_shown set (run ++ b ∷ []) bs) where
  go : (t : Bool) → is_white set b ≡ t
      → shown_behind set (run ++ b ∷ []) bs ≡ spaced ((run ++ b ∷ []) ++ take (prefix_len (is_white set) bs) bs) ++ shown_behind set []
      (drop (prefix_len (is_white set) bs) bs) → cond t (shown_behind set (run ++ b ∷ []) bs) (spaced run ++ b ∷ shown_behind set [] bs)
      ≡ spaced (run ++ take (cond t (1 + prefix_len (is_white set) bs) 0) (b ∷ bs)) ++ shown_behind set []
      (drop (cond t (1 + prefix_len (is_white set) bs) 0) (b ∷ bs))
  go true is later = rw (one_more (prefix_len (is_white set) bs))
      (later ∙ ap (λ xs. spaced xs ++ shown_behind set [] (drop (prefix_len (is_white set) bs) bs))
      (append_assoc run (b ∷ []) (take (prefix_len (is_white set) bs) bs)))
  go false is later = rw (is, append-nil run) refl

-- bytes that begin no white space are shown as they are
others_shown : (set : CharSet) (bytes : List ℕ) → shown_behind set [] bytes ≡ take (prefix_len (is_alike set false) bytes) bytes ++
    shown_behind set [] (drop (prefix_len (is_alike set false) bytes) bytes)
others_shown set [] = refl
others_shown set (b ∷ bs) = go (is_white set b) refl (others_shown set bs) where
  go : (t : Bool) → is_white set b ≡ t → shown_behind set [] bs ≡ take (prefix_len (is_alike set false) bs) bs ++ shown_behind set []
      (drop (prefix_len (is_alike set false) bs) bs) → cond t (shown_behind set (b ∷ []) bs) (b ∷ shown_behind set [] bs)
      ≡ take (cond (not t) (1 + prefix_len (is_alike set false) bs) 0) (b ∷ bs) ++ shown_behind set []
      (drop (cond (not t) (1 + prefix_len (is_alike set false) bs) 0) (b ∷ bs))
  go true is later = rw is refl
  go false is later = rw (one_more (prefix_len (is_alike set false) bs)) (ap (λ xs. b ∷ xs) later)

run_shown : (set : CharSet) (is_space : Bool) (bytes : List ℕ) → shown_behind set [] bytes ≡ shown_run is_space
    (take (prefix_len (is_alike set is_space) bytes) bytes) ++ shown_behind set [] (drop (prefix_len (is_alike set is_space) bytes) bytes)
run_shown set true bytes = spaces_shown set [] bytes
run_shown set false bytes = others_shown set bytes

-- the whole shows the text up to a further run, this run, and the text behind it
cut_again : (set : CharSet) (is_space : Bool) (whole rest done : List ℕ) (n : ℕ) → n ≡ prefix_len (is_alike set is_space) rest →
    shown_behind set [] whole ≡ done ++ shown_behind set [] rest
    → shown_behind set [] whole ≡ (done ++ shown_run is_space (take n rest)) ++ shown_behind set [] (drop n rest)
cut_again set is_space whole rest done n is cut = rw (
  is,
  append_assoc done (shown_run is_space (take (prefix_len (is_alike set is_space) rest) rest))
      (shown_behind set [] (drop (prefix_len (is_alike set is_space) rest) rest)),
) (cut ∙ ap (λ xs. done ++ xs) (run_shown set is_space rest))

-- a run: the number of its bytes, the bytes behind it, and the text that is shown of it
pub record IsRun (set : CharSet) (is_space : Bool) (rest behind piece : List ℕ) : Type 0 where
  pub count : ℕ
  pub is_count : count ≡ prefix_len (is_alike set is_space) rest
  pub is_behind : behind ≡ drop count rest
  pub is_piece : piece ≡ shown_run is_space (take count rest)

cut_of : (set : CharSet) (is_space : Bool) (whole rest behind piece done : List ℕ) → IsRun set is_space rest behind piece →
    shown_behind set [] whole ≡ done ++ shown_behind set [] rest → shown_behind set [] whole ≡ (done ++ piece) ++ shown_behind set [] behind
cut_of set is_space whole rest behind piece done run cut =
    rw (run.is_behind, run.is_piece) (cut_again set is_space whole rest done run.count run.is_count cut)

-- a run that was written is shown, too
pub shows_next : (old mid new : Option (List ℕ)) (a b c : ℕ) (set : CharSet) (is_space : Bool) (whole rest behind piece : List ℕ) →
    IsRun set is_space rest behind piece
    → Shows old mid a b set whole rest → Takes mid new piece × (c ≡ b) → Shows old new a c set whole behind
shows_next old mid new a b c set is_space whole rest behind piece run shows next =
    let both = both_whole old mid new a b c shows.done piece (shows.takes, shows.quiet) next in
    record {
      done = shows.done ++ piece;
      takes = both.0;
      is_cut = cut_of set is_space whole rest behind piece shows.done run shows.is_cut;
      quiet = both.1;
    }

-- a run that was not written leaves a part shown
pub shows_failed : (old mid new : Option (List ℕ)) (a b c : ℕ) (set : CharSet) (is_space : Bool) (whole rest behind piece : List ℕ)
    (r : Result Unit ReportFault) → IsErr r → IsRun set is_space rest behind piece
    → Shows old mid a b set whole rest → TakesPart mid new piece × (b ≤ c) × Rose b c → Writes old new a c (shown_behind set [] whole) r
shows_failed old mid new a b c set is_space whole rest behind piece r is run shows next =
    let cut = cut_of set is_space whole rest behind piece shows.done run shows.is_cut in
    rw cut (with_more old new a c (shows.done ++ piece) (shown_behind set [] behind) r is
    (goes_on old mid new a b c shows.done piece r (shows.takes, shows.quiet) (failed mid new b c piece r is next)))
