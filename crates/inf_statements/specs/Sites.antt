-- The sites of statements as the code has them.
use Rattle.inf_names.specs.LocalList.{listed}
use Rattle.inf_statements.specs.{Effects.Site, declared.effects.Site.Site as CodeSite}

abbrev pub site : CodeSite → Site
site s = record {
  set = s.set;
  tokens = s.tokens.now;
  begun = s.begun;
  items = s.items.now;
  locals = listed s.locals.now;
  constructs = s.constructs.now;
}
