use Rattle.inf_command.specs.FileNames.{source_name}
use Rattle.inf_compile.specs.Compiling.{chosen_by, named_by}
use Rattle.inf_program.proofs.Compiling.{begins_written, headline_written, part_written}
use Rattle.inf_program.proofs.compile.compile.Goals as goal

pub returns-clause-headline : goal.returns-clause-headline
returns-clause-headline g c = λ honest.
    let files = g.F.Files in
    let options = c.args.options.now in
    let sources = files.sources c.args.files.now in
    let named = named_by options.source sources in
    let o = chosen_by sources options in
    let name = source_name options.source in
    let before = g.M.Sink.taken c.args.messages.now in
    let after = g.M.Sink.taken c.compile.new.messages in
    let was = g.S.Sink.taken c.args.story.now in
    let now = g.S.Sink.taken c.compile.new.story in
    headline_written c.compile.result named o c.args.date name before after was now (c.compile.ensures.headline honest)

pub returns-clause-begins : goal.returns-clause-begins
returns-clause-begins g c = λ honest.
    let files = g.F.Files in
    let options = c.args.options.now in
    let sources = files.sources c.args.files.now in
    let named = named_by options.source sources in
    let o = chosen_by sources options in
    let name = source_name options.source in
    let before = g.M.Sink.taken c.args.messages.now in
    let after = g.M.Sink.taken c.compile.new.messages in
    begins_written c.compile.result named o c.args.date name before after (c.compile.ensures.begins honest)

pub returns-clause-part : goal.returns-clause-part
returns-clause-part g c = λ honest.
    let files = g.F.Files in
    let options = c.args.options.now in
    let sources = files.sources c.args.files.now in
    let named = named_by options.source sources in
    let o = chosen_by sources options in
    let name = source_name options.source in
    let before = g.M.Sink.taken c.args.messages.now in
    let after = g.M.Sink.taken c.compile.new.messages in
    let was = g.S.Sink.taken c.args.story.now in
    let now = g.S.Sink.taken c.compile.new.story in
    part_written c.compile.result named o c.args.date name before after was now (c.compile.ensures.part honest)

pub returns-clause-leaves : goal.returns-clause-leaves
returns-clause-leaves g c = c.compile.ensures.leaves
