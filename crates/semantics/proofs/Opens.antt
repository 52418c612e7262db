-- Opens every definition where an example is computed: `unfolding computing`. Assumes nothing.
use native.Mathlib.Decide.{ℕ_discrete}
use lib.Ieee.{to_bits, of_bits, add, mul}
use Rattle.wire.specs.Bytes
use Rattle.wire.specs.Reader
use Rattle.numeric.specs.Post
use Rattle.ast.specs.Header
use Rattle.ast.specs.Rules
use Rattle.ast.specs.Node
use Rattle.ast.specs.Questions
use Rattle.program.specs.Program
use Rattle.program.specs.Image
use Rattle.semantics.specs.Positions
use Rattle.semantics.specs.Payloads
use Rattle.semantics.specs.Run
use Rattle.semantics.specs.Walk
use Rattle.semantics.specs.Machine
use Rattle.semantics.specs.State
use Rattle.semantics.specs.Pieces
use Rattle.semantics.specs.Lowering
use Rattle.semantics.specs.Link
use Rattle.program.specs.Kinds
use Rattle.semantics.specs.Answer
use Rattle.semantics.specs.Demand3

unfoldable pub computing : Unit {0}
unfolding Bytes.be16 Bytes.be32 Bytes.be64 Bytes.be Reader.◌and◌ Reader.number Reader.entries Reader.list Reader.times Reader.lists Post.is_identity to_bits of_bits add mul Post.scaled Post.fold Rules.rule_of Rules.known Node.name_at Node.payload_at Node.size_of Node.trees Node.tree_at Node.parse Questions.fits Questions.row Questions.filled Questions.rooted Questions.whole Questions.formed Questions.shallow Questions.questions Program.code_at Program.const_at Program.post_at Program.hash_at Program.name_at Program.slot_at Program.member_at Program.store_at Program.call_at Program.start_at Image.word_of Image.bit Image.is_set Image.shapes Image.instruction_of Image.put_instruction Image.get_instruction Image.put_text Image.get_text Image.put_post Image.get_post Image.put_name Image.get_name Image.put_member Image.get_member Image.put_root Image.root_of Image.get_root Image.put_store Image.get_store Image.put_call Image.get_call Image.put_depths Image.get_depths Image.put_closing Image.put_program Image.get_program Image.image Image.read ℕ_discrete Positions.slot Positions.intern Positions.pair_discrete Rules.rules Rules.rule_at Payloads.cases Payloads.as_name Payloads.as_hash Payloads.as_math Payloads.as_query Payloads.float_of Payloads.const_of Payloads.string_of Payloads.resource_of Payloads.link Payloads.path Payloads.paths Run.opens Run.closes Run.pick Run.behaviour Walk.after Walk.misses Walk.otherwise Walk.round Walk.rounds Walk.nexts Walk.segment Walk.arguments Walk.shown Walk.jumps Walk.statements Walk.paired Walk.bounds Walk.logic Walk.terms Walk.host_math Walk.root_shown Walk.stores Walk.target Walk.each_of Walk.variable Walk.loaded Walk.walk_plain Walk.member_read Walk.pointer Walk.returning Walk.walk_rule Walk.walk Walk.walks Walk.finish Walk.walked Machine.root_at Machine.plain_action Machine.taking_action Machine.taken Machine.reading_action Machine.guard_action Machine.guard_up Machine.each_action Machine.missed Machine.cut Machine.check Machine.close Machine.enter Machine.leave Machine.execute Machine.step Machine.follow State.sets State.not_float_only State.queried State.first Pieces.flush Pieces.put_const Pieces.post_if Pieces.jumps Lowering.loaded Lowering.chained Lowering.member_read Lowering.with_root Lowering.stores Lowering.target_refusal Lowering.unless Lowering.target Lowering.paired Lowering.const_operand Lowering.equal_const Lowering.bounds Lowering.logic Lowering.terms Lowering.host_math Lowering.arguments Lowering.fill Lowering.is_empty Lowering.pointer Lowering.statements Lowering.returning Lowering.each_of Lowering.variable Lowering.array_element Lowering.member_store Lowering.lower_plain Lowering.lower_rule Lowering.lower Lowering.lowers Link.relocate Link.settle Link.place_segments Link.offsets_of Link.place_call Link.member_entry Kinds.in_float_loop Link.final_flags Link.lowered Link.link Link.program Header.settings Link.refusal_of Link.program_image Answer.answer_from Answer.answer Answer.written Answer.output_after Answer.workspace_after Demand3.tree_behaviour
computing = tt
