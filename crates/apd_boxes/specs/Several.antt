-- Several points, as they are kept.
use Rattle.std.specs.Prelude.{List}
use Rattle.apd_ports.specs.declared.point.PointId.{PointId}
use Rattle.apd_boxes.specs.declared.few.KeptSeveral.{KeptSeveral}
use Rattle.apd_boxes.specs.declared.few.KeptSeveral.TheVariants.{Two, Many}

abbrev pub several_in : KeptSeveral → List PointId
several_in (Two points) = points
several_in (Many list) = list.value
