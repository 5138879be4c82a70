-- What reading a job comes to, the room that a record needs in a job, and what is known of a job that was read.
use Rattle.std.specs.Prelude.{◌≡◌, Result, Ok, Err, Bool, true, ◌+◌, ◌*◌, ◌≤◌, ◌<◌, leb, length}
use Rattle.definition.specs.Elements.{nodes_of}
use Rattle.definition.specs.Questions.{Outcome, accepted, refused, number_of, is_family}
use Rattle.definition.specs.declared.Mark.{Mark}
use Rattle.definition.specs.declared.Mark.TheVariants.{Head, Node, Element, Point, Unknown}
use Rattle.definition.specs.declared.Refusal.{Refusal}
use Rattle.definition.specs.Job.{Job}

-- what reading comes to, in document 01's words: the job that was read, or the refusal
abbrev pub read_outcome : Result (Unit {0}) Refusal → Job → Outcome Job
read_outcome (Ok _) j = accepted j
read_outcome (Err r) j = refused (number_of r.question) r.place

-- whether a job that holds the limits holds them with a record more
abbrev pub room_for : Mark → Job → Bool
room_for Head j = true
room_for Node j = leb (length j.nodes + 2) 1024
room_for Element j = leb (length j.elements + nodes_of j.family) (nodes_of j.family * 256)
room_for Point j = leb (length j.points + 2) 512
room_for Unknown j = true

-- the bounds of a job that was read: those of its family, of a u16, and of its lists
pub record Bounded (j : Job) : Type 0 where
  pub family : is_family j.family ≡ true
  pub iterations : j.iterations < 65536
  pub nodes : length j.nodes ≤ 1024
  pub elements : length j.elements ≤ 2304
  pub points : length j.points ≤ 512
