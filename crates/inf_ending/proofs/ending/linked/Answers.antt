use Rattle.inf_ending.proofs.Endings.{longest_told}
use Rattle.inf_ending.proofs.ending.linked.Goals as goal

pub returns-in-Err-StoryTooLong : goal.returns-in-Err-StoryTooLong
returns-in-Err-StoryTooLong g c =
    let err = c.in-Err-StoryTooLong in let told = c.given_up-in-Err-StoryTooLong in
    longest_told c.args.told c.args.files.now.names c.args.main c.args.names.items c.args.code c.args.contents.strings
    c.args.contents.tables c.args.report _ _ _ _ told.result
    c.scale-scale.ensures c.into_area.ensures c.most_of.ensures err.field-0-is err.ensures.fault told.ensures
