-- A planned section without the vectors that hold it.
use Rattle.std.specs.Prelude.{string_bytes}
use Rattle.workload_gen.specs.Built.{Planned}
use Rattle.workload_gen.specs.declared.planned.PlannedSection.{PlannedSection}

abbrev pub plain_planned : PlannedSection → Planned
plain_planned s =
    record {
      name = string_bytes s.name;
      kind = s.kind;
      flags = s.flags;
      addr = s.addr;
      size = s.size;
      link = s.link;
      info = s.info;
      align = s.align;
      entsize = s.entsize;
      content = s.content.items;
    }
