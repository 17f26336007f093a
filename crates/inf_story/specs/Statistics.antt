-- The statistics of a story, for those who want them.
use Rattle.std.specs.Prelude.{ℕ, length, codes}
use Rattle.inf_code.specs.Code.{Routines, routine_count}
use Rattle.inf_tables.specs.{Tables.AllTables, World.object_count}
use Rattle.inf_unit.specs.Messages.{Reported, with_statistic}
use Rattle.inf_story.specs.{declared.statistics.Counts.Counts, declared.statistics.Statistics.Statistics}

-- the counts of a source with `symbols` names: objects with the first four, actions without fake ones, routines with the first one
abbrev pub counts_of : ℕ → Routines → AllTables → Counts
counts_of symbols code tables = record {
  symbols = symbols;
  words = length tables.dictionary.list;
  objects = object_count tables.world;
  verbs = length tables.verbs.list;
  actions = length tables.actions.routines;
  routines = routine_count code;
}

-- the report with a line for each count, in this order
abbrev pub with_counts : Counts → Reported → Reported
with_counts c r = with_statistic (codes "routines") c.routines (with_statistic (codes "actions") c.actions
    (with_statistic (codes "verbs") c.verbs (with_statistic (codes "objects") c.objects
    (with_statistic (codes "words") c.words (with_statistic (codes "symbols") c.symbols r)))))

abbrev pub with_statistics : Statistics → Reported → Reported
with_statistics s r = with_statistic (codes "story") s.sizes.story (with_statistic (codes "readable") s.sizes.readable
    (with_statistic (codes "strings") s.sizes.strings (with_statistic (codes "code") s.sizes.code (with_counts s.counts r))))
