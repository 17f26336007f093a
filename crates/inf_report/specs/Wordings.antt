-- The texts of messages, made of pieces.
use Rattle.std.specs.Prelude.{ℕ, List, ◌++◌, codes, decimal}
use Rattle.inf_report.specs.{Meant.worded, Messages.place, Messages.quoted, OwnWords.shown, declared.wordings.Wording.Wording}

abbrev pub said : Wording → List ℕ
said (Wording.Phrase first second third fourth) = first.now ++ second.now ++ third.now ++ fourth.now
said (Wording.Declared name at) = quoted name.now ++ codes " was declared at " ++ place at.file.now at.line
said (Wording.StoryOver bytes) = codes "Story is over " ++ decimal bytes ++ codes " bytes"
said (Wording.Own words) = shown (worded words)
