-- Runs as lines.
use Rattle.std.specs.Prelude.{ℕ, List, ◌++◌, Some, None, codes}
use Rattle.std.specs.List.{flat_map}
use Rattle.std.specs.Fmt.{decimal}
use Rattle.meaning.specs.Environment.{Value}
use Rattle.meaning.specs.Perform.{Event, CallEvent, StoreEvent, ReturnEvent, OpaqueEvent, End, Returned, Trapped, Undefined, Steps}
use Rattle.meaning.specs.Code.{Run}

abbrev pub lane_word : Value → List ℕ
lane_word None = codes " undef"
lane_word (Some n) = codes " " ++ decimal n

-- lanes, and the end of the line
abbrev pub lane_words : List Value → List ℕ
lane_words lanes = flat_map lane_word lanes ++ codes "\n"

abbrev pub event_line : Event → List ℕ
event_line (CallEvent name lanes) = codes "call " ++ (name ++ lane_words lanes)
event_line (StoreEvent a lanes) = codes "store " ++ (decimal a ++ lane_words lanes)
event_line (ReturnEvent lanes) = codes "ret" ++ lane_words lanes
event_line (OpaqueEvent name lanes) = codes "op " ++ (name ++ lane_words lanes)

abbrev pub event_lines : List Event → List ℕ
event_lines events = flat_map event_line events

abbrev pub end_word : End → List ℕ
end_word Returned = codes "returned"
end_word Trapped = codes "trapped"
end_word Undefined = codes "undefined"
end_word Steps = codes "steps"

abbrev pub end_line : End → List ℕ
end_line e = codes "end " ++ (end_word e ++ codes "\n")

-- what `run` prints: the events in order, and the end
abbrev pub lines_of_run : Run → List ℕ
lines_of_run r = event_lines r.events ++ end_line r.end
