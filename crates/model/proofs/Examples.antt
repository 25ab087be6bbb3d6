-- The worked examples, by computing what the definitions say.
use Rattle.std.proofs.Common.{refl}
use Rattle.model.specs.Examples.{SmallTables}

pub small_tables_lem : SmallTables
small_tables_lem =
    record {
      fence_cut = refl;
      no_threads = refl;
      five_threads = refl;
      op_of_translated = refl;
      unused_operand = refl;
      fence_size = refl;
      fence_registers = refl;
      no_rounds = refl;
      five_rounds = refl;
      no_room = refl;
      store_buffering_size = refl;
      store_buffering_registers = refl;
      translation_is_read = refl;
      fence_schedule = refl;
      fence_section_open = refl;
      another_translation = refl;
      both_zero = refl;
      both_zero_goal = refl;
      short_goal = refl;
      nothing_pending = refl;
      fence_waits = refl;
      full_at_one = refl;
      no_line = refl;
      one_round = refl;
      one_round_schedule = refl;
      own_store_seen = refl;
      own_store_schedule = refl;
      no_such_thread = refl;
      ended_before_way = refl;
      way_before_section = refl;
      section_of_another = refl;
      shut_unheld = refl;
    }
