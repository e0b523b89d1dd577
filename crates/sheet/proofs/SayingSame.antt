-- Commands that say the same gather the same.
use mathlib.Core.Path.{◌≡◌, ap, fun_ext}
use mathlib.Core.List.{List}
use Rattle.sheet.specs.declared.Command.{Command}
use Rattle.sheet.specs.SaySame.{SaySame}
use Rattle.sheet.specs.Gathered.{tabulate, gathered}
use Rattle.sheet.specs.Limits.{max_patterns}

pub say_same_gathered : (cs ds : List Command) → SaySame cs ds → gathered cs ≡ gathered ds
unfolding gathered
say_same_gathered cs ds s =
    rw (ap (tabulate max_patterns) (fun_ext s.permitted)) (simp (s.inputs, s.wires, s.rows, s.dont_cares, s.gates, s.outputs))
