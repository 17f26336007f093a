use Rattle.inf_compile.proofs.Examples.{conditionals_choose, conditions_choose, empty_source, files_are_included, hello_is_a_story}
use Rattle.inf_compile.proofs.Examples.{names_are_undeclared, no_source, sixteen_are_open, text_is_missing}
use Rattle.inf_compile.proofs.laws.sources_have_these_outcomes.Goals as goal

pub returns : goal.returns
returns c = record {
  no_source = no_source;
  empty_source = empty_source;
  text_is_missing = text_is_missing;
  names_are_undeclared = names_are_undeclared;
  files_are_included = files_are_included;
  conditionals_choose = (conditionals_choose, conditions_choose);
  sixteen_are_open = sixteen_are_open;
  hello_is_a_story = hello_is_a_story;
}
