-- The flags of words: a use joins its bits, by the table of the description.
use Rattle.std.proofs.Common.{◌≡◌, ℕ, List, [], ◌∷◌, Option, Some, None, Bool, true, false, refl, ◌∙◌, ap, sym}
use Rattle.std.specs.{Int.Bits.or_zero_l, List.fold}
use Rattle.std.specs.Prelude.{bit_or, cond, map, if◌then◌else◌}
use Rattle.inf_dictionary.specs.{Words.flags_of, Words.joined, declared.uses.Word.Word, declared.uses.WordUse.WordUse}
use Rattle.inf_dictionary.specs.Uses.{UseOf, said_by, said_of}
use Rattle.inf_verb_laws.specs.{Laws.FlagsAgree, Laws.bits_of, Laws.flags_in, Verbs.Text, Verbs.same_text}

by_table : (how : WordUse) (p : Bool) → flags_of how p ≡ bits_of how p
by_table (WordUse.Verb n) true = refl
by_table (WordUse.Verb n) false = refl
by_table (WordUse.MetaVerb n) true = refl
by_table (WordUse.MetaVerb n) false = refl
by_table WordUse.Preposition true = refl
by_table WordUse.Preposition false = refl
by_table WordUse.Other true = refl
by_table WordUse.Other false = refl

joined_flags : (known : Option Word) (how : WordUse) (p : Bool)
    → flags_in (Some (joined known how p)) ≡ bit_or (flags_in known) (bits_of how p)
joined_flags None how p = by_table how p ∙ sym (or_zero_l (bits_of how p))
joined_flags (Some word) how p = ap (bit_or word.flags) (by_table how p)

abbrev step : Text → ℕ → Text × ℕ → ℕ
step t f u = if same_text t u.0 then bit_or f u.1 else f

chosen : (b : Bool) (known : Option Word) (how : WordUse) (p : Bool)
    → flags_in (cond b (Some (joined known how p)) known) ≡ cond b (bit_or (flags_in known) (bits_of how p)) (flags_in known)
chosen true known how p = joined_flags known how p
chosen false known how p = refl

flags_from : (uses : List UseOf) (t : Text) (known : Option Word)
    → flags_in (said_of t uses known) ≡ fold (step t) (flags_in known) (map (λ u. (u.text, bits_of u.how u.is_plural)) uses)
flags_from [] t known = refl
flags_from (u ∷ uses) t known = flags_from uses t (said_by t u known)
    ∙ ap (λ f. fold (step t) f (map (λ u. (u.text, bits_of u.how u.is_plural)) uses)) (chosen (same_text t u.text) known u.how u.is_plural)

pub flags_agree : FlagsAgree
flags_agree uses t = flags_from uses t None
