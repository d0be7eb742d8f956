-- The header and steps of a dump as texts, to be read beside the request.
--
--   printed            == what the definitions write, and the text of each
--   first, second, third == three cycles of the page's run: cycle 0, cycle 3, and cycle 4, in which only HTRANS moves
use Rattle.std.specs.Prelude.{ℕ, List, [], ◌∷◌}
use Rattle.rules.specs.declared.Cycle.{Cycle}
use Rattle.formats.specs.Texts.{Print}
use Prim.Native.String.{String}
use Rattle.waves.specs.Header.{dump_header}
use Rattle.waves.specs.Steps.{dump_step}
use Rattle.waves.specs.Files.{no_cycle, dump}

abbrev print : List ℕ → String → Print
print line shown = record { line = line; shown = shown }

abbrev pub first : Cycle
first =
    record {
      inputs = record { hbusreq = 0x0000; hlock = 0x0000; hready = 0; htrans = 0; hburst = 0 };
      outputs = record { hgrant = 0x0001; hmaster = 0; hmastlock = 0; decide = 1; granted = 0; busreq = 0 };
    }

abbrev pub second : Cycle
second =
    record {
      inputs = record { hbusreq = 0x0006; hlock = 0x0000; hready = 1; htrans = 2; hburst = 3 };
      outputs = record { hgrant = 0x0002; hmaster = 1; hmastlock = 0; decide = 0; granted = 0; busreq = 1 };
    }

abbrev pub third : Cycle
third =
    record {
      inputs = record { hbusreq = 0x0006; hlock = 0x0000; hready = 1; htrans = 3; hburst = 3 };
      outputs = record { hgrant = 0x0002; hmaster = 1; hmastlock = 0; decide = 0; granted = 0; busreq = 1 };
    }

-- every column differs from `first`
abbrev pub every : Cycle
every =
    record {
      inputs = record { hbusreq = 0x8001; hlock = 0x7ffe; hready = 1; htrans = 2; hburst = 3 };
      outputs = record { hgrant = 0xa5c3; hmaster = 0xd; hmastlock = 1; decide = 0; granted = 1; busreq = 1 };
    }

abbrev pub printed : List Print
printed =
    print (dump_header 3)
    "$comment masters 3 $end\n$timescale 1 ns $end\n$scope module ahb $end\n$var wire 16 ! HBUSREQ $end\n$var wire 16 \" HLOCK $end\n$var wire 1 # HREADY $end\n$var wire 2 $ HTRANS $end\n$var wire 3 % HBURST $end\n$var wire 16 & HGRANT $end\n$var wire 4 ' HMASTER $end\n$var wire 1 ( HMASTLOCK $end\n$var wire 1 ) DECIDE $end\n$var wire 1 * GRANTED $end\n$var wire 1 + BUSREQ $end\n$upscope $end\n$enddefinitions $end\n"
    ∷ print (dump_header 16)
    "$comment masters 16 $end\n$timescale 1 ns $end\n$scope module ahb $end\n$var wire 16 ! HBUSREQ $end\n$var wire 16 \" HLOCK $end\n$var wire 1 # HREADY $end\n$var wire 2 $ HTRANS $end\n$var wire 3 % HBURST $end\n$var wire 16 & HGRANT $end\n$var wire 4 ' HMASTER $end\n$var wire 1 ( HMASTLOCK $end\n$var wire 1 ) DECIDE $end\n$var wire 1 * GRANTED $end\n$var wire 1 + BUSREQ $end\n$upscope $end\n$enddefinitions $end\n"
    -- cycle 0 writes all, whatever the cycle before
    ∷ print (dump_step no_cycle 0 first)
    "#0\nb0000000000000000 !\nb0000000000000000 \"\n0#\nb00 $\nb000 %\nb0000000000000001 &\nb0000 '\n0(\n1)\n0*\n0+\n"
    ∷ print (dump_step first 0 first)
    "#0\nb0000000000000000 !\nb0000000000000000 \"\n0#\nb00 $\nb000 %\nb0000000000000001 &\nb0000 '\n0(\n1)\n0*\n0+\n"
    -- only what changed; nothing but the time where nothing did; a longest step
    ∷ print (dump_step first 1 second) "#1\nb0000000000000110 !\n1#\nb10 $\nb011 %\nb0000000000000010 &\nb0001 '\n0)\n1+\n"
    ∷ print (dump_step second 20 third) "#20\nb11 $\n"
    ∷ print (dump_step third 999999 third) "#999999\n"
    ∷ print (dump_step first 999999 every)
    "#999999\nb1000000000000001 !\nb0111111111111110 \"\n1#\nb10 $\nb011 %\nb1010010111000011 &\nb1101 '\n1(\n0)\n1*\n1+\n"
    -- a whole dump: the cycles one after the other
    ∷ print (dump 2 (first ∷ first ∷ second ∷ []))
    "$comment masters 2 $end\n$timescale 1 ns $end\n$scope module ahb $end\n$var wire 16 ! HBUSREQ $end\n$var wire 16 \" HLOCK $end\n$var wire 1 # HREADY $end\n$var wire 2 $ HTRANS $end\n$var wire 3 % HBURST $end\n$var wire 16 & HGRANT $end\n$var wire 4 ' HMASTER $end\n$var wire 1 ( HMASTLOCK $end\n$var wire 1 ) DECIDE $end\n$var wire 1 * GRANTED $end\n$var wire 1 + BUSREQ $end\n$upscope $end\n$enddefinitions $end\n#0\nb0000000000000000 !\nb0000000000000000 \"\n0#\nb00 $\nb000 %\nb0000000000000001 &\nb0000 '\n0(\n1)\n0*\n0+\n#1\n#2\nb0000000000000110 !\n1#\nb10 $\nb011 %\nb0000000000000010 &\nb0001 '\n0)\n1+\n"
    ∷ []
