-- The night that a plan file holds.
use Rattle.night.specs.Night.{Night}
use Rattle.format.specs.Layout.{night_in}
use Rattle.layout.specs.declared.file.PlanFile.{PlanFile}

-- by its bytes and its header's values
abbrev pub night_held : PlanFile → Night
night_held f = night_in f.bytes.now f.header
