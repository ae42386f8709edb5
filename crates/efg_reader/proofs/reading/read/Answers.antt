use Rattle.std.proofs.Common.{◌≡◌, ◌<◌, ◌^◌, List, length, ◌∙◌, Ok, arith}
use Rattle.game_core.specs.TokenList.{bare}
use Rattle.tree_grammar.specs.TreeParsing.{FrontPart, parse_front}
use Rattle.efg_reader.proofs.FileStopLemmas.{all_short, few_of, front_stop, made_tree, nodes_stop, read_file, read_tree}
use Rattle.tree_faults.proofs.ShortRestLemmas.{front_leaves}
use Rattle.efg_reader.proofs.reading.read.Goals as goal
use Rattle.game_core.specs.declared.token.Token.{Token}

pub returns-in-Err : goal.returns-in-Err
returns-in-Err c =
    front_stop c.args.tokens.now c.in-Err.stopped c.stop.result c.requires.few (rw c.list.ensures.list at c.in-Err.ensures) c.stop.ensures

pub overflow_cast-len : goal.overflow_cast-len
overflow_cast-len c =
    let x : FrontPart × List Token = ((c.in-Ok.read.0.title, c.in-Ok.read.0.players.items), bare c.in-Ok.read.1.now) in
    let front : parse_front (bare c.args.tokens.now.list) ≡ Ok x = rw c.list.ensures.list at c.in-Ok.ensures in
    let few : length c.in-Ok.read.0.players.items < 2 ^ 32 = few_of c.args.tokens.now.list x c.requires.few front in
    record { fits = omega (arith, few, c.len.ensures, c.in-Ok.read.0.players.ok.0) }

pub read_nodes-requires : goal.read_nodes-requires
read_nodes-requires c =
    let x : FrontPart × List Token = ((c.in-Ok.read.0.title, c.in-Ok.read.0.players.items), bare c.in-Ok.read.1.now) in
    let front : parse_front (bare c.args.tokens.now.list) ≡ Ok x = rw c.list.ensures.list at c.in-Ok.ensures in
    record { short = front_leaves (bare c.args.tokens.now.list) x front (all_short 0 c.args.tokens.now.length c.args.tokens.now.list c.list.ensures.are_spaced) }

pub tree-requires : goal.tree-requires
tree-requires c =
    let x : FrontPart × List Token = ((c.in-Ok.read.0.title, c.in-Ok.read.0.players.items), bare c.in-Ok.read.1.now) in
    let front : parse_front (bare c.args.tokens.now.list) ≡ Ok x = rw c.list.ensures.list at c.in-Ok.ensures in
    let players : c.len.result ≡ length c.in-Ok.read.0.players.items = c.len.ensures ∙ c.in-Ok.read.0.players.ok.0 in
    read_tree c.args.tokens.now.list x c.in-Ok-read_nodes.builder c.requires.few front (rw players at c.in-Ok-read_nodes.ensures)

pub returns-in-Ok-read_nodes : goal.returns-in-Ok-read_nodes
returns-in-Ok-read_nodes c =
    let x : FrontPart × List Token = ((c.in-Ok.read.0.title, c.in-Ok.read.0.players.items), bare c.in-Ok.read.1.now) in
    let front : parse_front (bare c.args.tokens.now.list) ≡ Ok x = rw c.list.ensures.list at c.in-Ok.ensures in
    let players : c.len.result ≡ length c.in-Ok.read.0.players.items = c.len.ensures ∙ c.in-Ok.read.0.players.ok.0 in
    made_tree c.tree.result c.args.tokens.now _ c.tree.ensures.tree c.tree.ensures.memory (read_file c.args.tokens.now.list x c.in-Ok-read_nodes.builder c.requires.few front (rw players at c.in-Ok-read_nodes.ensures))

pub returns-in-Err-read_nodes : goal.returns-in-Err-read_nodes
returns-in-Err-read_nodes c =
    let x : FrontPart × List Token = ((c.in-Ok.read.0.title, c.in-Ok.read.0.players.items), bare c.in-Ok.read.1.now) in
    let front : parse_front (bare c.args.tokens.now.list) ≡ Ok x = rw c.list.ensures.list at c.in-Ok.ensures in
    let players : c.len.result ≡ length c.in-Ok.read.0.players.items = c.len.ensures ∙ c.in-Ok.read.0.players.ok.0 in
    nodes_stop c.args.tokens.now x c.in-Err-read_nodes.stopped c.nodes_stop.result c.requires.few front (rw players at c.in-Err-read_nodes.ensures) c.nodes_stop.ensures
