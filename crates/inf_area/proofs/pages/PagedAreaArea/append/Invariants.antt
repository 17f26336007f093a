use Rattle.std.proofs.Common.{◌≡◌, ◌++◌, ℕ, List, length}
use Rattle.inf_area.proofs.pages.PagedAreaArea.append.Given as goal

-- the bytes that were seen are appended
pub record Appends (old now rest added : List ℕ) : Type 0 where
  pub seen : List ℕ
  pub now_is : now ≡ old ++ seen
  pub added_is : added ≡ seen ++ rest

abbrev pub invariant-loop-rest : goal.invariant-loop-rest
invariant-loop-rest l = Appends l.fn.self l.self l.rest l.added

abbrev pub decreases-loop-rest : goal.decreases-loop-rest
decreases-loop-rest l = length l.rest
