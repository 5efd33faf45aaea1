-- What a window shows: some blocks of the tag of the driver below it.
use Rattle.tags.specs.Tags.{Tag}
use Rattle.drivers.specs.Layers.{window_tag}
use Rattle.windows.specs.declared.Window.{Window}

-- by what the driver below means
abbrev pub shown : {D : Type 0} → (D → Tag) → Window D → Tag
shown tag s = window_tag s.from s.most (tag s.lower)
