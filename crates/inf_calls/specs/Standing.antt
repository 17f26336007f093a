-- Sessions of which texts are read, beside the work that was compiled.
use Rattle.std.specs.Prelude.{◌≡◌}
use Rattle.inf_output.specs.Output.{Out}
use Rattle.inf_calls.specs.declared.cx.Cx.{Cx}

-- The end of a unit leaves the open files, the choices and the settings as they are.
pub record StaysHere {B : Type 0} (before after : Cx B) : Type 0 where
  pub files : after.session.open_files ≡ before.session.open_files
  pub setup : after.session.setup ≡ before.session.setup
  pub settings : after.settings ≡ before.settings

-- the same calls with this output
abbrev pub with_output : {B : Type 0} → Out → Cx B → Cx B
with_output out cx =
    let s = cx.session in
    let p = s.progress in record cx { session = record s { progress = record p { work = record p.work { output = out } } } }
