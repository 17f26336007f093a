-- The faults of a use of a word.
use Rattle.std.proofs.Common.{◌≡◌, refl, Bool, true, false, ◌&&◌, cond, Option, Some, None, unwrap_or, length, is_none, nat_le}
use Rattle.inf_dictionary.specs.{declared.dictionary.AddFault.AddFault, declared.uses.Word.Word, declared.uses.WordUse.WordUse}
use Rattle.inf_dictionary.specs.Words.{Words, add_fault, is_of_other_verb}
use Rattle.inf_settings.specs.{Bounds.Limits, declared.setting.Setting.Setting}

-- where want of memory is told, nothing is wrong with the use
pub fit_where_memory : (limits : Limits) (word : Option Word) (how : WordUse) (words : Words)
    → AddFault.Memory ≡ unwrap_or (add_fault limits word how words) AddFault.Memory → add_fault limits word how words ≡ None
fit_where_memory limits word how words =
    by_tests (is_of_other_verb word how) (is_none word && nat_le (limits Setting.DictionaryEntries) (length words.list))
  where
    by_tests : (is_other is_full : Bool)
        → AddFault.Memory ≡ unwrap_or (cond is_other (Some AddFault.OtherVerb) (cond is_full (Some AddFault.Full) None)) AddFault.Memory
        → cond is_other (Some AddFault.OtherVerb) (cond is_full (Some AddFault.Full) None) ≡ None
    by_tests true is_full told = cc
    by_tests false true told = cc
    by_tests false false told = refl
