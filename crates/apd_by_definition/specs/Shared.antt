-- The frame that a node of the list stands for.
use Rattle.apd_trace.specs.declared.frame.Frame.{Frame}
use Rattle.apd_by_definition.specs.declared.engine.frames.Node.{Node}

abbrev pub frame_of : Node → Frame
frame_of n =
    record {
      box_no = n.box_no;
      depth = n.depth;
      clause = n.clause;
      tuple = n.tuple.value;
      done = n.done;
      point = n.point;
    }
