-- One step through a text.
use Rattle.std.proofs.Common.{◌≡◌, ◌-◌, ℕ, zero, suc, Option, Some, List, [], ◌∷◌, ◌++◌, drop, refl, ap, sym, ◌∙◌, arith}
use Rattle.std.proofs.lemmas.List.{length-drop}
use Rattle.inf_characters.specs.{Items.IsText, declared.texts.TextItem.TextItem}
use Rattle.inf_text.specs.Packing.{zs_from, abbreviation_zs, front_zs, front_behind, item_zs, longest, words, AreZs}
use Rattle.inf_text.specs.{Packer.Takes, Packer.completed, Step.Steps}

-- items that are passed over are dropped
pub zs_from-passed : (declared : List (List TextItem)) (k : ℕ) (items : List TextItem) →
    zs_from declared k items ≡ zs_from declared 0 (drop k items)
zs_from-passed declared zero items = refl
zs_from-passed declared (suc k) [] = refl
zs_from-passed declared (suc k) (x ∷ items) = zs_from-passed declared k items

-- the end of a text is a text
pub IsText-drop : (k : ℕ) (items : List TextItem) → IsText items → IsText (drop k items)
IsText-drop zero items h = h
IsText-drop (suc k) [] h = tt
IsText-drop (suc k) (x ∷ items) h = IsText-drop k items h.1

-- where an abbreviation was found, the step passes over it
pub Steps-found : (declared : List (List TextItem)) (items : List TextItem) (x : TextItem) (rest : List TextItem) (n len k : ℕ)
    (zs : List ℕ) (tail : List TextItem) → items ≡ x ∷ rest → longest declared items ≡ Some (n, len) → k ≡ len - 1 → zs ≡ abbreviation_zs n
    → AreZs zs → IsText items → tail ≡ drop k rest → Steps declared items zs tail
Steps-found declared items x rest n len k zs tail split found behind is small text tail_is =
    let found' : longest declared (x ∷ rest) ≡ Some (n, len) = rw split at found in
    let whole : zs_from declared 0 (x ∷ rest) ≡ abbreviation_zs n ++ zs_from declared (len - 1) rest =
    ap (λ (f : Option (ℕ × ℕ)). front_zs f x ++ zs_from declared (front_behind f) rest) found' in
    let text' : IsText (x ∷ rest) = rw split at text in
    rw (split, tail_is, is) (record {
      value = whole ∙ rw (behind, zs_from-passed declared (len - 1) rest) refl;
      small = rw is at small;
      few = omega arith;
      text = IsText-drop k rest text'.1;
      shorter = omega (arith, length-drop k rest);
    })

-- without abbreviations an item stands for itself
pub plain-more : (old new : List ℕ × List ℕ) (zs : List ℕ) (items rest whole : List TextItem) (x : TextItem) → items ≡ x ∷ rest →
    zs ≡ item_zs x → Takes old zs new → completed old (zs_from [] 0 items) ≡ words (zs_from [] 0 whole) →
    completed new (zs_from [] 0 rest) ≡ words (zs_from [] 0 whole)
unfolding longest
plain-more old new zs items rest whole x split is takes h = takes (zs_from [] 0 rest)
    ∙ ap (λ ys. completed old (ys ++ zs_from [] 0 rest)) is ∙ ap (λ xs. completed old (zs_from [] 0 xs)) (sym split) ∙ h
