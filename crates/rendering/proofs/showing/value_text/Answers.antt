-- The places are copied, and the writer moves the copies on.
use Rattle.rendering.proofs.RenderingSteps.{value-showable, value-shown}
use Rattle.rendering.proofs.showing.value_text.Goals as goal

pub write_item-requires : goal.write_item-requires
write_item-requires c = value-showable c.requires _ c.copy.ensures c.copy.auto.to

pub returns : goal.returns
returns c = value-shown c.requires _ c.copy.ensures c.write_item.ensures
