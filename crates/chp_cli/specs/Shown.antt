-- What the order that a command asks for is shown.
use Rattle.command_answers.specs.Answers.{Given}
use Rattle.command_words.specs.CommandWords.{Asked, simulates, benches, grows}
use Rattle.simulation_commands.specs.Asked.{AsksOrder}
use Rattle.bench_commands.specs.Asked.{AsksBench}
use Rattle.bench_commands.specs.Boxes.{peer_seen, picker_seen}
use Rattle.grown_commands.specs.Growing.{AsksGrown}
use Rattle.chp_cli.specs.Handed.{Objects}

-- it got its seed, and then before each move of the run the list of all moves that are enabled
abbrev pub ShowsEnabled : {B : Type 0} {Order : B → Type 0} {D : Type 0} {Device : D → Type 0} → Asked → Given →
    Objects Order Device → Type 0
ShowsEnabled (simulates run) given objects =
    AsksOrder (picker_seen objects.order) run given objects.before.orders.items objects.after.orders.items
ShowsEnabled (benches b) given objects = AsksBench (picker_seen objects.order) (peer_seen objects.peer) b given
    objects.before.orders.items objects.after.orders.items objects.before.peers.items objects.after.peers.items
ShowsEnabled (grows growth) given objects = AsksGrown growth.sum (picker_seen objects.order) growth
    objects.before.orders.items objects.after.orders.items
ShowsEnabled _ given objects = Unit {0}
