-- The outcome of the reading of a head, and the state in which it leaves its device.
use Rattle.std.specs.Prelude.{◌≡◌, ◌<◌, ◌≤◌, ◌⊎◌, false, ℕ, List, length, IfOk, IsErr, IsErrOf, OnErr, OnOk, Result}
use Rattle.inf_devices.specs.{Files.Rose, declared.files.Files.Ghosts as Files}
use Rattle.inf_lexer.specs.declared.faults.LexFault.{LexFault}
use Rattle.inf_sources.specs.{Calls.StaysFit, Calls.Went, Inclusions.Nesting, Open.Open}
use Rattle.inf_sources.specs.Heading.{StopsInHead, head_front, head_in, past_head}
use Rattle.inf_command.specs.Heads.{HeadWords, head_of}

-- With an honest reader, the result has all words of the head of the innermost file, and the file goes on behind the head; or the bytes
-- that were given do not end the head. Nothing else was opened.
pub record HeadIsRead (was now : Nesting) (past : ℕ) (unread : List ℕ) (r : Result HeadWords LexFault) : Type 0 where
  pub head : IfOk r (λ head. head ≡ head_of (head_in was.cursor).words)
  pub nesting : OnOk r (now ≡ past_head was)
  pub opened : now.openings ≡ was.openings
  pub unfinished : OnErr r (StopsInHead (head_front was.cursor) past unread)

-- With any reader the same files are open, and a fault has its cause.
pub record LeavesHead {S : Type 0} (f : Files S) (old new : S) (before after : Open) (r : Result HeadWords LexFault) : Type 0 where
  pub went : Went f old new before after
  pub fits : OnOk r (StaysFit f old new before)
  pub same : (after.nest ≡ before.nest) × ((after.outer ≡ before.outer) × (after.lexer.file ≡ before.lexer.file))
  pub window : length before.lexer.window.left ≤ 4096 → length after.lexer.window.left ≤ 4096
  pub seen : OnOk r (f.faults new ≡ f.faults old)
  pub on : IsErr r → after.lexer.window.is_over ≡ false
  pub cause : IsErr r → IsErrOf r LexFault.Read × (Rose (f.faults old) (f.faults new) ⊎ (16777216 < after.lexer.window.given))
